-- The first name in the commands of a symbol.
use Rattle.std.proofs.Common.{ℕ, zero, suc, ◌≡◌, ◌+◌, ◌-◌, ◌<◌, ◌≤◌, refl, sym, ◌∙◌, ap, subst}
use Rattle.std.proofs.Common.{arith, List, [], ◌∷◌, ◌++◌}
use Rattle.std.proofs.Common.{length, take, drop, get_or, All, Option, Some, None, append_assoc, ◌⊎◌, inl, inr}
use Rattle.std.specs.Prelude.{◌≢◌, slice_get, slice_range}
use Rattle.std.specs.BTreeMap.{BTreeMap, get}
use Rattle.std.specs.Ordering.{nat_cmp}
use Rattle.std.proofs.lemmas.Bool.{cases_order}
use Rattle.mp_base.proofs.Entries.{one_value}
use Rattle.std.proofs.lemmas.Option.{get_or_from_slice_get}
use Rattle.std.proofs.lemmas.List.{length-append, length-drop, take-append-drop, take-take, take_more, get_or-drop}
use Rattle.std.proofs.lemmas.List.Elements.{All-head, All-tail, All-cons, All-nil, All-append}
use Rattle.cif_form.specs.Labels.{IsSpace}
use Rattle.cif_form.specs.Names.{IsNameText, Names, IsSymbolName}
use Rattle.cif_form.specs.declared.command.Item.{Item}
use Rattle.cif_form.specs.Labels.{IsLabelText}
use Rattle.cif_flat.specs.Labelling.{Begins, IsNextWord, IsLabelled, IsRead, AreRead, IsUserAt, label_written}
use Rattle.cif_flat.specs.declared.label.Written.{Written}
use Rattle.cif_flat.specs.declared.symbol.Naming.{Naming}
use Rattle.cif_form.specs.declared.command.Command.TheVariants.{User, Finish}
use Rattle.cif_form.specs.Expansion.{item_at}
use Rattle.cif_flat.specs.Naming.{text_of, naming_bytes, IsNamingAt, IsSymbolNaming}

-- ---- a name in a text

begins_spaces : (a : List ℕ) → All IsSpace a → Begins IsSpace a
begins_spaces [] h = tt
begins_spaces (b ∷ a) h = All-head IsSpace b a h

-- a text that names a symbol has its name as next word, and then spaces
pub named_word : (name text : List ℕ) → IsNameText name text
    → (rest : List ℕ) × IsNextWord text name rest × All IsSpace rest
named_word name text (s, t, e, hs, (w, rest, f, (g, some, solid), spaces)) = (
  rest,
  record {
    spaces = s;
    split = e ∙ ap (λ z. s ++ z) (f ∙ ap (λ z. z ++ rest) g);
    are_spaces = hs;
    some = some;
    solid = solid;
    stops = begins_spaces rest spaces;
  },
  spaces,
)

pub word_names : (name text rest : List ℕ) → IsNextWord text name rest → All IsSpace rest → IsNameText name text
word_names name text rest h spaces =
    (h.spaces, name ++ rest, h.split, h.are_spaces, (name, rest, refl, (refl, h.some, h.solid), spaces))

drop_front : (xs ys : List ℕ) → drop (length xs) (xs ++ ys) ≡ ys
drop_front [] ys = refl
drop_front (x ∷ xs) ys = drop_front xs ys

take_front : (xs ys : List ℕ) → take (length xs) (xs ++ ys) ≡ xs
take_front [] ys = refl
take_front (x ∷ xs) ys = ap (λ z. x ∷ z) (take_front xs ys)

pub word_sizes : (text word rest : List ℕ) (h : IsNextWord text word rest)
    → length text ≡ length h.spaces + (length word + length rest)
word_sizes text word rest h =
    ap length h.split ∙ length-append h.spaces (word ++ rest)
    ∙ ap (λ n. length h.spaces + n) (length-append word rest)

-- where the next word stands
pub word_at : (text word rest : List ℕ) (start end : ℕ) → IsNextWord text word rest → end + length rest ≡ length text
    → start + length word ≡ end → slice_range text start end ≡ word
word_at text word rest start end h e s =
    let sizes = word_sizes text word rest h in
    let front : start ≡ length h.spaces = omega (arith, e, s, sizes) in
    let size : end - start ≡ length word = omega (arith, s) in
    ap (λ n. take n (drop start text)) size ∙ ap (λ n. take (length word) (drop n text)) front
    ∙ ap (λ t. take (length word) (drop (length h.spaces) t)) h.split
    ∙ ap (take (length word)) (drop_front h.spaces (word ++ rest)) ∙ take_front word rest

-- the same behind a first byte
pub word_behind : (first : ℕ) (body word rest : List ℕ) (start end : ℕ) → IsNextWord body word rest
    → end + length rest ≡ suc (length body) → start + length word ≡ end → slice_range (first ∷ body) start end ≡ word
word_behind first body word rest zero end h e s =
    let sizes = word_sizes body word rest h in absurd (omega (arith, e, s, sizes))
word_behind first body word rest (suc start) zero h e s = absurd (omega (arith, s))
word_behind first body word rest (suc start) (suc end) h e s =
    let size : suc end - suc start ≡ end - start = omega arith in
    ap (λ n. take n (drop start body)) size
    ∙ word_at body word rest start end h (omega (arith, e)) (omega (arith, s))

-- ---- names in commands

abbrev pub NoneNamed : List Item → Type 0
NoneNamed is = All (λ i. (name : List ℕ) → ¬ Names i.command name) is

pub none_named : (is : List Item) → NoneNamed is → IsSymbolName is None
none_named [] h = IsSymbolName.none
none_named (i ∷ is) h =
    IsSymbolName.later (All-head (λ i. (name : List ℕ) → ¬ Names i.command name) i is h)
    (none_named is (All-tail (λ i. (name : List ℕ) → ¬ Names i.command name) i is h))

pub first_named : (is js : List Item) (found : Option (List ℕ)) → NoneNamed is → IsSymbolName js found
    → IsSymbolName (is ++ js) found
first_named [] js found h k = k
first_named (i ∷ is) js found h k =
    IsSymbolName.later (All-head (λ i. (name : List ℕ) → ¬ Names i.command name) i is h)
    (first_named is js found (All-tail (λ i. (name : List ℕ) → ¬ Names i.command name) i is h) k)

module _ (items : List Item) (first index : ℕ) (from : first ≤ index) (more : index < length items) where
  -- the items from the first up to the one at the index
  range_next : (i : Item) → slice_get items index ≡ Some i
      → slice_range items first (index + 1) ≡ slice_range items first index ++ (i ∷ [])
  range_next i e =
      let inside : index - first < length (drop first items) = omega (arith, from, more, length-drop first items) in
      let back : first + (index - first) ≡ index = omega (arith, from) in
      let next : index + 1 - first ≡ index - first + 1 = omega (arith, from) in
      let here : get_or (drop first items) (index - first) i ≡ i =
      get_or-drop first items (index - first) i ∙ ap (λ k. get_or items k i) back ∙ get_or_from_slice_get items index i i e in
      ap (λ n. take n (drop first items)) next ∙ take_more (drop first items) (index - first) i inside
      ∙ ap (λ x. take (index - first) (drop first items) ++ (x ∷ [])) here

  there : (i : Item) × (slice_get items index ≡ Some i)
  there = some_there items index more
    where
      some_there : (xs : List Item) (k : ℕ) → k < length xs → (i : Item) × (slice_get xs k ≡ Some i)
      some_there [] k h = absurd (omega (arith, h))
      some_there (x ∷ xs) zero h = (x, refl)
      some_there (x ∷ xs) (suc k) h = some_there xs k (omega (arith, h))

  pub none_more : NoneNamed (slice_range items first index) → IsNamingAt items index None
      → NoneNamed (slice_range items first (index + 1))
  none_more h n =
      subst NoneNamed (sym (range_next there.0 there.1))
      (All-append (λ i. (name : List ℕ) → ¬ Names i.command name) (slice_range items first index) (there.0 ∷ []) h
      (All-cons (λ i. (name : List ℕ) → ¬ Names i.command name) there.0 [] (n there.0 there.1)
      (All-nil (λ i. (name : List ℕ) → ¬ Names i.command name))))

  pub named_here : (end : ℕ) → index < end → NoneNamed (slice_range items first index) → (n : Naming)
      → IsNamingAt items index (Some n) → IsSymbolNaming items (slice_range items first end) (Some n)
  named_here end lt h n is =
      let body = slice_range items first end in
      let size = index + 1 - first in
      let front : take size body ≡ slice_range items first (index + 1) =
      take-take size (end - first) (drop first items) (omega (arith, lt, from)) in
      let split : slice_range items first index ++ (there.0 ∷ drop size body) ≡ body =
      sym (append_assoc (slice_range items first index) (there.0 ∷ []) (drop size body))
      ∙ ap (λ z. z ++ drop size body) (sym (front ∙ range_next there.0 there.1)) ∙ take-append-drop size body in
      subst (λ z. IsSymbolName z (Some (naming_bytes items n))) split
      (first_named (slice_range items first index) (there.0 ∷ drop size body) (Some (naming_bytes items n)) h
      (IsSymbolName.first (naming_bytes items n) (is there.0 there.1)))

-- ---- one command

same_item : {A : Type 0} (i j : A) (o : Option A) → o ≡ Some i → o ≡ Some j → i ≡ j
same_item i j o e f = let g : Some i ≡ Some j = sym e ∙ f in cc

-- a command that is none of these names no symbol
pub names_of_view : (items : List Item) (at : ℕ) (offset digit : ℕ) (text : List ℕ)
    → slice_get items at ≡ Some (item_at offset (User digit text)) → (i : Item) → slice_get items at ≡ Some i
    → i ≡ item_at offset (User digit text)
names_of_view items at offset digit text e i f = same_item i (item_at offset (User digit text)) (slice_get items at) f e

pub none_spanned : (items : List Item) (at : ℕ) (offset digit : ℕ) (text : List ℕ)
    → slice_get items at ≡ Some (item_at offset (User digit text)) → ((name : List ℕ) → ¬ IsNameText name text)
    → IsNamingAt items at None
none_spanned items at offset digit text e n i f name h =
    let k : Names (User digit text) name =
    subst (λ (j : Item). Names j.command name) (names_of_view items at offset digit text e i f) h in
    n name k.1

pub some_spanned : (items : List Item) (at : ℕ) (offset : ℕ) (text : List ℕ) (start end : ℕ)
    → slice_get items at ≡ Some (item_at offset (User 9 text)) → IsNameText (slice_range text start end) text
    → IsNamingAt items at (Some (record { item = at; start = start; end = end }))
some_spanned items at offset text start end e h i f =
    let j = item_at offset (User 9 text) in
    let stored : get_or items at (item_at 0 Finish) ≡ j = get_or_from_slice_get items at j (item_at 0 Finish) e in
    let bytes : slice_range text start end
    ≡ slice_range (text_of (get_or items at (item_at 0 Finish)).command) start end =
    ap (λ (k : Item). slice_range (text_of k.command) start end) (sym stored) in
    subst (λ (k : Item). Names k.command
    (slice_range (text_of (get_or items at (item_at 0 Finish)).command) start end))
    (sym (names_of_view items at offset 9 text e i f)) (refl, subst (λ z. IsNameText z text) bytes h)

-- ---- labels

pub user_bytes : (items : List Item) (at : ℕ) (text : List ℕ) (n : Naming) → IsUserAt items at text → n.item ≡ at
    → naming_bytes items n ≡ slice_range text n.start n.end
user_bytes items at text n (o, d, e) i =
    ap (λ k. slice_range (text_of (get_or items k (item_at 0 Finish)).command) n.start n.end) i
    ∙ ap (λ (j : Item). slice_range (text_of j.command) n.start n.end)
    (get_or_from_slice_get items at (item_at o (User d text)) (item_at 0 Finish) e)

-- a label is read the same by another place of its name
pub label_named : (items : List Item) (at : ℕ) (text : List ℕ) (l : Written) (first : Naming)
    → IsUserAt items at text → IsLabelled at text (Some l) → naming_bytes items first ≡ naming_bytes items l.named
    → IsLabelText (label_written (naming_bytes items first) l) text
label_named items at text l first user is same =
    subst (λ z. IsLabelText (label_written z l) text) (sym (same ∙ user_bytes items at text l.named user is.1)) is.0

same_text : (o p d q : ℕ) (s t : List ℕ) → item_at o (User d s) ≡ item_at p (User q t) → s ≡ t
same_text o p d q s t e = ap (λ (i : Item). text_of i.command) e

pub reads_set : (items : List Item) (old new : BTreeMap ℕ (Option Written)) (at : ℕ) (l : Option Written)
    (text : List ℕ) → AreRead items old → IsUserAt items at text → IsRead items text l
    → get nat_cmp new at ≡ Some l → ((k : ℕ) → k ≢ at → get nat_cmp new k ≡ get nat_cmp old k) → AreRead items new
reads_set items old new at l text a (o, d, e) r here others k m g p q t i = elim (cases_order k at) [
  | inl f ↦
      (let read : l ≡ m = one_value (get nat_cmp new at) l m here (ap (get nat_cmp new) (sym f) ∙ g) in
      let item = same_item (item_at o (User d text)) (item_at p (User q t)) (slice_get items at) e
      (ap (slice_get items) (sym f) ∙ i) in
      subst (λ z. IsRead items z m) (same_text o p d q text t item) (subst (IsRead items text) read r))
  | inr f ↦ a k m (sym (others k (apart k at f)) ∙ g) p q t i
]
  where
    apart : (n k : ℕ) → (n < k) ⊎ (k < n) → n ≢ k
    apart n k (inl l) e = omega (arith, l, e)
    apart n k (inr l) e = omega (arith, l, e)
