-- Lists that are made place by place.
use Rattle.std.proofs.Common.{ℕ, ◌≡◌, ◌<◌, ◌+◌, inl, inr, refl, sym, ap, ◌∙◌, arith, List, [], ◌∷◌, ◌++◌, length, map}
use Rattle.std.proofs.Common.{get_or, set, take, slice_index, get_or-set_same, get_or-set_other}
use Rattle.std.proofs.lemmas.Bool.{cases_lt}
use Rattle.std.proofs.lemmas.List.{get_or_default, take_more}
use Rattle.mp_base.proofs.Lists.{map_append}
use Rattle.pad_order.specs.declared.order.Entry.{Entry}
use Rattle.pad_order.specs.Entries.{AreDistinct}

-- the places of the first i entries are told
abbrev pub AreToldTo : List ℕ → List Entry → ℕ → Type 0
AreToldTo told entries i = (k : ℕ) (d : Entry) → k < i → slice_index told (get_or entries k d).number ≡ k

pub told_more : (told : List ℕ) (entries : List Entry) (i : ℕ) (d : Entry) → AreDistinct entries → i < length entries
    → (get_or entries i d).number < length told → AreToldTo told entries i
    → AreToldTo (set told (get_or entries i d).number i) entries (i + 1)
told_more told entries i d distinct lt inside at k x l = elim (cases_lt k i) [
  | inl low ↦ (let h = distinct k i d low lt in
      let q = ap (λ (e : Entry). e.number) (get_or_default entries k d x (omega (arith, low, lt))) in
      get_or-set_other told (get_or entries i d).number (get_or entries k x).number i 0 (λ e. h (q ∙ e))
      ∙ at k x low)
  | inr high ↦ (let e : k ≡ i = omega (arith, high, l) in
      let q : (get_or entries k x).number ≡ (get_or entries i d).number =
      ap (λ n. (get_or entries n x).number) e ∙ ap (λ (e : Entry). e.number) (get_or_default entries i x d lt) in
      ap (λ n. slice_index (set told (get_or entries i d).number i) n) q
      ∙ get_or-set_same told (get_or entries i d).number i 0 inside ∙ sym e)
]

-- what is made of one element more
pub map_more : {X Y : Type 0} (f : X → Y) (xs : List X) (i : ℕ) (d : X) (was new : List Y) (y : Y) → i < length xs
    → was ≡ map f (take i xs) → new ≡ was ++ y ∷ [] → y ≡ f (get_or xs i d) → new ≡ map f (take (i + 1) xs)
map_more f xs i d was new y lt e g h =
    g ∙ ap (λ l. l ++ y ∷ []) e ∙ ap (λ z. map f (take i xs) ++ z ∷ []) h
    ∙ sym (ap (map f) (take_more xs i d lt) ∙ map_append f (take i xs) (get_or xs i d ∷ []))
