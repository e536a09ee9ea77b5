-- What is spelled by nodes, where others are added.
use Rattle.std.proofs.Common.{◌≡◌, ℕ, suc, ◌+◌, ◌<◌, ◌≤◌, List, [], ◌∷◌, ◌++◌, refl, sym, ◌∙◌, ap, subst, length, arith}
use Rattle.std.proofs.Common.{append_assoc, get_or}
use Rattle.std.specs.Prelude.{slice_range, slice_set}
use Rattle.std.proofs.lemmas.List.{append-nil, length-append, length-set, length_push, get_or_append_left, get_or_push}
use Rattle.std.proofs.lemmas.List.{get_or_at, get_or-set_other, set_at}
use Rattle.mp_base.specs.declared.refusal.Place.{Place}
use Rattle.form_reader.specs.declared.forms.Kind.{Kind}
use Rattle.form_reader.specs.declared.forms.Kind.TheVariants.{Group}
use Rattle.form_reader.specs.declared.forms.Node.{Node}
use Rattle.form_reader.specs.Sound.{no_node}
use Rattle.form_reader.specs.Text.{IsGapBetween, IsRun, IsByte, place_at}
use Rattle.form_reader.specs.Spelling.{IsKindOf, IsNode, Spelled, none, token, list}
use Rattle.form_reader.specs.Reading.{HasRead, AddsItem, HasListed}

-- ---- other nodes

node_grows : (xs ys : List Node) (i : ℕ) (place : Place) (kind : Kind) → IsNode xs i place kind
    → IsNode (xs ++ ys) i place kind
node_grows xs ys i place kind is =
    (omega (arith, length-append xs ys, is.0), get_or_append_left xs ys no_node i is.0 ∙ is.1)

pub Spelled-grows : {text : List ℕ} {xs : List Node} {depth at i to j : ℕ} {items : List ℕ} (ys : List Node)
    → Spelled text xs depth at i items to j → Spelled text (xs ++ ys) depth at i items to j
Spelled-grows ys none = none
Spelled-grows {xs = xs} ys (token {i = i} s e kind gap run is node rest) =
    token s e kind gap run is (node_grows xs ys i _ kind node) (Spelled-grows ys rest)
Spelled-grows {xs = xs} ys (list {i = i} s e c k inner gap byte shallow node within gap2 byte2 rest) =
    list s e c k inner gap byte shallow (node_grows xs ys i _ (Group inner) node) (Spelled-grows ys within) gap2 byte2
    (Spelled-grows ys rest)

pub Spelled-le : {text : List ℕ} {xs : List Node} {depth at i to j : ℕ} {items : List ℕ}
    → Spelled text xs depth at i items to j → i ≤ j
Spelled-le none = omega arith
Spelled-le (token s e kind gap run is node rest) = let h = Spelled-le rest in omega (arith, h)
Spelled-le (list s e c k inner gap byte shallow node within gap2 byte2 rest) = let h = Spelled-le within in
    let g = Spelled-le rest in omega (arith, h, g)

node_kept : (xs : List Node) (n : ℕ) (x : Node) (i : ℕ) (place : Place) (kind : Kind) → n < i → IsNode xs i place kind
    → IsNode (slice_set xs n x) i place kind
node_kept xs n x i place kind lt is =
    (omega (arith, length-set xs n x, is.0), get_or-set_other xs n i x no_node (λ e. omega (arith, e, lt)) ∙ is.1)

-- a node in front is set
pub Spelled-kept : {text : List ℕ} {xs : List Node} {depth at i to j : ℕ} {items : List ℕ} (n : ℕ) (x : Node) → n < i
    → Spelled text xs depth at i items to j → Spelled text (slice_set xs n x) depth at i items to j
Spelled-kept n x lt none = none
Spelled-kept {xs = xs} n x lt (token {i = i} s e kind gap run is node rest) =
    token s e kind gap run is (node_kept xs n x i _ kind lt node) (Spelled-kept n x (omega (arith, lt)) rest)
Spelled-kept {xs = xs} n x lt (list {i = i} s e c k inner gap byte shallow node within gap2 byte2 rest) =
    let le = Spelled-le within in
    list s e c k inner gap byte shallow (node_kept xs n x i _ (Group inner) lt node)
    (Spelled-kept n x (omega (arith, lt)) within) gap2 byte2 (Spelled-kept n x (omega (arith, lt, le)) rest)

-- items, one after another
pub Spelled-append : {text : List ℕ} {xs : List Node} {depth at i m j to n : ℕ} {items more : List ℕ}
    → Spelled text xs depth at i items m j → Spelled text xs depth m j more to n
    → Spelled text xs depth at i (items ++ more) to n
Spelled-append none after = after
Spelled-append (token s e kind gap run is node rest) after = token s e kind gap run is node (Spelled-append rest after)
Spelled-append (list s e c k inner gap byte shallow node within gap2 byte2 rest) after =
    list s e c k inner gap byte shallow node within gap2 byte2 (Spelled-append rest after)

-- ---- the reader's steps

pub nothing_read : (text : List ℕ) (depth from : ℕ) (old : List Node) → HasRead text depth from old old [] from
nothing_read text depth from old = record { more = []; nodes = sym (append-nil old); spelled = none }

pub add_item : (text : List ℕ) (depth from : ℕ) (old new new' : List Node) (items : List ℕ) (at s e : ℕ)
    → HasRead text depth from old new items at → IsGapBetween text at s → AddsItem text depth s new new' e
    → HasRead text depth from old new' (items ++ length new ∷ []) e
add_item text depth from old new new' items at s e read gap item = record {
  more = read.more ++ item.more;
  nodes = item.nodes ∙ ap (λ z. z ++ item.more) read.nodes ∙ append_assoc old read.more item.more;
  spelled =
      Spelled-append
      (subst (λ z. Spelled text z depth from (length old) items at (length new)) (sym item.nodes)
      (Spelled-grows item.more read.spelled)) (item.spelled at gap);
}

pub token_item : (text : List ℕ) (depth s e : ℕ) (old new : List Node) (kind : Kind) (place : Place) → IsRun text s e
    → IsKindOf (slice_range text s e) kind → place ≡ place_at text s
    → new ≡ old ++ record { place = place; kind = kind } ∷ [] → AddsItem text depth s old new e
token_item text depth s e old new kind place run is here made =
    let size : length new ≡ suc (length old) = ap length made ∙ length_push old _ ∙ omega arith in
    record {
      more = record { place = place; kind = kind } ∷ [];
      nodes = made;
      spelled =
          λ at gap. token s e kind gap run is (omega (arith, size), last_node)
          (subst (λ z. Spelled text new depth e (suc (length old)) [] e z) (sym size) none);
    }
  where
    last_node : get_or new (length old) no_node ≡ record { place = place_at text s; kind = kind }
    last_node = ap (λ z. get_or z (length old) no_node) made ∙ get_or_push old _ no_node (length old) refl
        ∙ ap (λ (z : Place). record { place = z; kind = kind }) here

-- the nodes of a list's items stand behind its own, which is set last
pub group_item : (text : List ℕ) (depth outer s d from : ℕ) (old mid new new' : List Node) (hole : Node)
    (place : Place) (items : List ℕ) (end : Place) (index : ℕ)
    → IsByte text s 40 → depth < 64 → place ≡ place_at text s → d ≡ depth + 1 → from ≡ s + 1 → mid ≡ old ++ hole ∷ []
    → HasListed text d outer from mid new items end → index ≡ length old
    → new' ≡ slice_set new index (record { place = place; kind = Group items })
    → AddsItem text depth s old new' end.offset
group_item text depth outer s d from old mid new new' hole place items end index byte shallow here d_is from_is mid_is
    listed index_is made =
    let read = listed.read in
    let closed = listed.closed (omega (arith, d_is)) in
    let x : Node = record { place = place; kind = Group items } in
    let first : length mid ≡ suc (length old) = ap length mid_is ∙ length_push old hole ∙ omega arith in
    let set_here : new' ≡ slice_set new (length old) x = made ∙ ap (λ z. slice_set new z x) index_is in
    let parts : new' ≡ old ++ x ∷ read.more
    = set_here
    ∙ ap (λ z. slice_set z (length old) x)
    (read.nodes ∙ ap (λ z. z ++ read.more) mid_is ∙ append_assoc old (hole ∷ []) read.more)
    ∙ set_at old hole read.more x (length old) refl in
    let size : length new' ≡ length new = ap length set_here ∙ length-set new (length old) x in
    let deeper : d ≡ suc depth = omega (arith, d_is) in
    let inner : Spelled text new' (suc depth) (s + 1) (suc (length old)) items listed.at (length new)
    = subst (λ z. Spelled text z (suc depth) (s + 1) (suc (length old)) items listed.at (length new)) (sym set_here)
    (Spelled-kept (length old) x (omega arith)
    (subst (λ z. Spelled text new (suc depth) (s + 1) z items listed.at (length new)) first
    (subst (λ z. Spelled text new (suc depth) z (length mid) items listed.at (length new)) from_is
    (subst (λ z. Spelled text new z from (length mid) items listed.at (length new)) deeper read.spelled)))) in
    let node : IsNode new' (length old) (place_at text s) (Group items)
    = (
      omega (arith, ap length parts, length-append old (x ∷ read.more)),
      ap (λ z. get_or z (length old) no_node) parts ∙ get_or_at old x read.more no_node (length old) refl
          ∙ ap (λ (z : Place). record { place = z; kind = Group items }) here,
    ) in
    let offset : end.offset ≡ closed.close + 1 = ap (λ (p : Place). p.offset) closed.end_is in
    record {
      more = x ∷ read.more;
      nodes = parts;
      spelled =
          λ at gap. list s listed.at closed.close (length new) items gap byte shallow node inner closed.gap closed.byte
          (subst (λ z. Spelled text new' depth (closed.close + 1) (length new) [] z (length new')) (sym offset)
          (subst (λ z. Spelled text new' depth (closed.close + 1) (length new) [] (closed.close + 1) z)
          (sym size) none));
    }
