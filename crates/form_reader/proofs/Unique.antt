-- A text spells at most one value of forms.
use Rattle.std.proofs.Common.{◌≡◌, ◌≢◌, ◌⊎◌, ℕ, suc, ◌+◌, ◌<◌, ◌≤◌, List, [], ◌∷◌, ◌++◌, false, refl, sym, ◌∙◌, ap}
use Rattle.std.proofs.Common.{subst, inl, inr, length, drop, get_or, arith}
use Rattle.std.specs.Prelude.{slice_range, slice_index}
use Rattle.std.specs.List.{list_all}
use Rattle.std.proofs.lemmas.Bool.{cases_lt, both_ways}
use Rattle.std.proofs.lemmas.List.{ext_get_or}
use Rattle.mp_base.specs.Token.{is_digit}
use Rattle.mp_base.specs.declared.refusal.Place.{Place}
use Rattle.form_reader.specs.declared.forms.Kind.{Kind}
use Rattle.form_reader.specs.declared.forms.Kind.TheVariants.{Number, Symbol, Group}
use Rattle.form_reader.specs.declared.forms.Node.{Node}
use Rattle.form_reader.specs.declared.forms.Forms.{Forms}
use Rattle.form_reader.specs.Sound.{no_node}
use Rattle.form_reader.specs.Text.{is_gap, IsGapBetween, EndsInGap, IsRun, IsByte, place_at}
use Rattle.form_reader.specs.Spelling.{IsKindOf, IsNode, Spelled, none, token, list, Spells}
use Rattle.mp_base.specs.Refuses.{SpotIs}
use Rattle.mp_base.specs.declared.refusal.Spot.{Spot}
use Rattle.mp_base.specs.declared.refusal.Spot.TheVariants.{At, Offset, Named, Nowhere}
use Rattle.mp_base.specs.declared.refusal.Refusal.{Refusal}
use Rattle.mp_base.specs.declared.refusal.Refusal.TheVariants.{NoMemory, Broken}
use Rattle.form_reader.specs.Rules.{Breaks, IsFirst, RefusesFirst}
use Rattle.form_reader.specs.Reading.{Clean}
use Rattle.form_reader.proofs.Gaps.{Begins, gap_ends, byte_begins, same_start, same_end, run_begins, mark_no_run}
use Rattle.form_reader.proofs.Clean.{clean_start, clean_gap, clean_open, clean_close, clean_run, clean_end}
use Rattle.form_reader.proofs.Reached.{small_kind}

-- ---- no rule is broken

-- where the outermost list begins, inside one that begins at s
inside_of : (depth outer s : ℕ) → (inside : ℕ) × (depth ≡ 0 → inside ≡ s) × (0 < depth → inside ≡ outer)
inside_of depth outer s =
    elim (cases_lt 0 depth) [
      | inl deep ↦ (outer, λ top. absurd (omega (arith, top, deep)), λ _. refl)
      | inr top ↦ (s, λ _. refl, λ deep. absurd (omega (arith, top, deep)))
    ]

clean_items : {text : List ℕ} {xs : List Node} {depth at i to j : ℕ} {items : List ℕ}
    → Spelled text xs depth at i items to j → (outer : ℕ) → Clean text depth outer at → Clean text depth outer to
clean_items none outer clean = clean
clean_items {text = text} (token {depth = depth} {at = at} s e kind gap run is node rest) outer clean =
    clean_items rest outer
    (clean_run text depth outer s e
    (clean_gap text depth outer at s (omega (arith, run.some, run.within)) clean gap) run
    (small_kind (slice_range text s e) kind is))
clean_items {text = text}
    (list {depth = depth} {at = at} s e c k inner gap byte shallow node within gap2 byte2 rest) outer clean =
    let here = inside_of depth outer s in
    let start = clean_gap text depth outer at s (omega (arith, byte.0)) clean gap in
    let end = clean_items within here.0 (clean_open text depth outer s here.0 start byte shallow here.1 here.2) in
    clean_items rest outer
    (clean_close text depth outer here.0 c (λ deep. sym (here.2 deep))
    (clean_gap text (suc depth) here.0 e c (omega (arith, byte2.0)) end gap2) byte2)

pub breaks_nothing : (text : List ℕ) (f : Forms) (k o : ℕ) → Spells text f → Breaks text k o → ⊥
breaks_nothing text f k o spells =
    clean_end text 0 spells.to (clean_items spells.items 0 (clean_start text 0)) spells.rest k o

-- ---- one value

-- no item can follow
abbrev IsStop : List ℕ → ℕ → Type 0
IsStop text at = EndsInGap text at ⊎ ((c : ℕ) × IsGapBetween text at c × IsByte text c 41)

no_item : (text : List ℕ) (at s : ℕ) → IsStop text at → IsGapBetween text at s
    → (s < length text) × Begins (get_or text s 0) → slice_index text s ≢ 41 → ⊥
no_item text at s (inl ends) gap begins other =
    both_ways (is_gap false (drop at text ++ 10 ∷ [])) (gap_ends text at s (10 ∷ []) gap begins.0 begins.1) ends.1
no_item text at s (inr close) gap begins other =
    other (ap (slice_index text)
    (same_start text at s close.0 gap close.1 begins (byte_begins text close.0 41 close.2 refl)) ∙ close.2.1)

run_not_close : (text : List ℕ) (s e : ℕ) → IsRun text s e → slice_index text s ≢ 41
run_not_close text s e run is = mark_no_run text s e 41 is refl run

open_not_close : (text : List ℕ) (s : ℕ) → IsByte text s 40 → slice_index text s ≢ 41
open_not_close text s byte is = omega (arith, byte.1, is)

-- a run has one kind
same_kind : (run : List ℕ) (a b : Kind) → IsKindOf run a → IsKindOf run b → a ≡ b
same_kind run (Number m) (Number n) h g = ap (λ z. Number z) (h.1 ∙ sym g.1)
same_kind run (Number m) (Symbol y) h g = absurd (both_ways (list_all is_digit run) g.0 h.0)
same_kind run (Number m) (Group ys) h g = absurd g
same_kind run (Symbol x) (Number n) h g = absurd (both_ways (list_all is_digit run) h.0 g.0)
same_kind run (Symbol x) (Symbol y) h g = ap (λ z. Symbol z) (h.1 ∙ sym g.1)
same_kind run (Symbol x) (Group ys) h g = absurd g
same_kind run (Group xs) b h g = absurd h

same_node : (text : List ℕ) (xs ys : List Node) (i s q : ℕ) (a b : Kind) → s ≡ q → a ≡ b
    → IsNode xs i (place_at text s) a → IsNode ys i (place_at text q) b → get_or xs i no_node ≡ get_or ys i no_node
same_node text xs ys i s q a b e k h g =
    h.1 ∙ ap (λ z. node (place_at text z) a) e ∙ ap (node (place_at text q)) k ∙ sym g.1
  where
    node : Place → Kind → Node
    node place kind = record { place = place; kind = kind }

-- the same items, with the same nodes, up to the same place
record Same (xs ys : List Node) (i : ℕ) (items others : List ℕ) (to to' j j' : ℕ) : Type 0 where
  pub same_items : items ≡ others
  pub same_to : to ≡ to'
  pub same_next : j ≡ j'
  pub nodes : (n : ℕ) → i ≤ n → n < j → get_or xs n no_node ≡ get_or ys n no_node

nodes_more : (xs ys : List Node) (i j : ℕ) → get_or xs i no_node ≡ get_or ys i no_node
    → ((n : ℕ) → suc i ≤ n → n < j → get_or xs n no_node ≡ get_or ys n no_node)
    → (n : ℕ) → i ≤ n → n < j → get_or xs n no_node ≡ get_or ys n no_node
nodes_more xs ys i j here there n lo hi =
    elim (cases_lt i n) [
      | inl later ↦ there n (omega (arith, later)) hi
      | inr now ↦ let same : n ≡ i = omega (arith, now, lo) in
          subst (λ z. get_or xs z no_node ≡ get_or ys z no_node) (sym same) here
    ]

nodes_join : (xs ys : List Node) (i k j : ℕ) → ((n : ℕ) → i ≤ n → n < k → get_or xs n no_node ≡ get_or ys n no_node)
    → ((n : ℕ) → k ≤ n → n < j → get_or xs n no_node ≡ get_or ys n no_node)
    → (n : ℕ) → i ≤ n → n < j → get_or xs n no_node ≡ get_or ys n no_node
nodes_join xs ys i k j front back n lo hi = elim (cases_lt n k) [ inl low ↦ front n lo low | inr high ↦ back n high hi ]

unique : {text : List ℕ} {xs ys : List Node} {depth at i to j to' j' : ℕ} {items others : List ℕ}
    → Spelled text xs depth at i items to j → IsStop text to → Spelled text ys depth at i others to' j'
    → IsStop text to' → Same xs ys i items others to to' j j'
unique none stop none stop' =
    record { same_items = refl; same_to = refl; same_next = refl; nodes = λ n lo hi. absurd (omega (arith, lo, hi)) }
unique {text = text} {at = at} none stop (token s e kind gap run is node rest) stop' =
    absurd (no_item text at s stop gap (run_begins text s e run) (run_not_close text s e run))
unique {text = text} {at = at} none stop (list s e c k inner gap byte shallow node within gap2 byte2 rest) stop' =
    absurd (no_item text at s stop gap (byte_begins text s 40 byte refl) (open_not_close text s byte))
unique {text = text} {at = at} (token s e kind gap run is node rest) stop none stop' =
    absurd (no_item text at s stop' gap (run_begins text s e run) (run_not_close text s e run))
unique {text = text} {xs = xs} {ys = ys} {depth = depth} {at = at} {i = i} {j = j} {to' = to'} {j' = j'}
    (token s e kind gap run is node rest) stop
    (token {items = others} q d kind' gap' run' is' node' rest') stop' =
    let start : s ≡ q = same_start text at s q gap gap' (run_begins text s e run) (run_begins text q d run') in
    let end : e ≡ d = same_end text q e d (subst (λ z. IsRun text z e) start run) run' in
    let kinds : kind ≡ kind' =
    same_kind (slice_range text q d) kind kind'
    (subst (λ z. IsKindOf (slice_range text q z) kind) end
    (subst (λ z. IsKindOf (slice_range text z e) kind) start is)) is' in
    let r = unique rest stop (subst (λ z. Spelled text ys depth z (suc i) others to' j') (sym end) rest') stop' in
    record {
      same_items = ap (λ z. i ∷ z) r.same_items;
      same_to = r.same_to;
      same_next = r.same_next;
      nodes = nodes_more xs ys i j (same_node text xs ys i s q kind kind' start kinds node node') r.nodes;
    }
unique {text = text} {at = at} (token s e kind gap run is node rest) stop
    (list q d c k inner gap' byte shallow node' within gap2 byte2 rest') stop' =
    let start : s ≡ q = same_start text at s q gap gap' (run_begins text s e run) (byte_begins text q 40 byte refl) in
    absurd (mark_no_run text s e 40 (ap (slice_index text) start ∙ byte.1) refl run)
unique {text = text} {at = at} (list s e c k inner gap byte shallow node within gap2 byte2 rest) stop none stop' =
    absurd (no_item text at s stop' gap (byte_begins text s 40 byte refl) (open_not_close text s byte))
unique {text = text} {at = at} (list s e c k inner gap byte shallow node within gap2 byte2 rest) stop
    (token q d kind gap' run is node' rest') stop' =
    let start : s ≡ q = same_start text at s q gap gap' (byte_begins text s 40 byte refl) (run_begins text q d run) in
    absurd (mark_no_run text q d 40 (ap (slice_index text) (sym start) ∙ byte.1) refl run)
unique {text = text} {xs = xs} {ys = ys} {depth = depth} {at = at} {i = i} {j = j} {to' = to'} {j' = j'}
    (list s e c k inner gap byte shallow node within gap2 byte2 rest) stop
    (list {items = others} q d b m inner' gap' byte' shallow' node' within' gap2' byte2' rest') stop' =
    let start : s ≡ q =
    same_start text at s q gap gap' (byte_begins text s 40 byte refl) (byte_begins text q 40 byte' refl) in
    let in_list =
    unique within (inr (c, gap2, byte2))
    (subst (λ z. Spelled text ys (suc depth) (z + 1) (suc i) inner' d m) (sym start) within')
    (inr (b, gap2', byte2')) in
    let close : c ≡ b
    = same_start text d c b (subst (λ z. IsGapBetween text z c) in_list.same_to gap2) gap2'
    (byte_begins text c 41 byte2 refl) (byte_begins text b 41 byte2' refl) in
    let next : Spelled text ys depth (c + 1) k others to' j'
    = subst (λ z. Spelled text ys depth (z + 1) k others to' j') (sym close)
    (subst (λ z. Spelled text ys depth (b + 1) z others to' j') (sym in_list.same_next) rest') in
    let r = unique rest stop next stop' in
    record {
      same_items = ap (λ z. i ∷ z) r.same_items;
      same_to = r.same_to;
      same_next = r.same_next;
      nodes = nodes_more xs ys i j
          (same_node text xs ys i s q (Group inner) (Group inner') start
          (ap (λ z. Group z) in_list.same_items) node node')
          (nodes_join xs ys (suc i) k j in_list.nodes r.nodes);
    }

pub one_value : (text : List ℕ) (f g : Forms) → Spells text f → Spells text g → f ≡ g
one_value text f g a b =
    let same = unique a.items (inl a.rest) b.items (inl b.rest) in
    let nodes : f.nodes ≡ g.nodes =
    ext_get_or no_node f.nodes g.nodes same.same_next (λ n lt. same.nodes n (omega arith) lt) in
    ap (λ z. forms z f.roots f.end) nodes ∙ ap (λ z. forms g.nodes z f.end) same.same_items
    ∙ ap (forms g.nodes g.roots) (a.end ∙ sym b.end)
  where
    forms : List Node → List ℕ → Place → Forms
    forms nodes roots end = record { nodes = nodes; roots = roots; end = end }

-- a text that spells forms is refused for want of memory alone
pub refused_for_memory : (text : List ℕ) (f : Forms) (e : Refusal) → Spells text f → RefusesFirst text e → e ≡ NoMemory
refused_for_memory text f NoMemory spells refused = refl
refused_for_memory text f (Broken b) spells refused = absurd (at_spot b.spot refused.1)
  where
    at_spot : (s : Spot) → SpotIs s (λ at. (at ≡ place_at text at.offset) × IsFirst text b.rule.number at.offset) → ⊥
    at_spot (At at) h = breaks_nothing text f b.rule.number at.offset spells h.1.broken
    at_spot (Offset o) h = absurd h
    at_spot (Named x) h = absurd h
    at_spot Nowhere h = absurd h
