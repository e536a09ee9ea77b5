-- What stands in joined lists.
use Rattle.std.proofs.Common.{inl, inr, ℕ, zero, suc, List, [], ◌∷◌, refl, sym, subst, arith, get_or}
use Rattle.std.specs.Prelude.{Contains, All}
use Rattle.std.specs.List.{flat_map}
use Rattle.std.proofs.lemmas.List.Elements.{All-contains, Contains-get_or, Contains-append_left, Contains-append_right}
use Rattle.std.proofs.lemmas.List.Elements.{Contains-append_cases}
use Rattle.std.proofs.lemmas.Option.{same_Some, none-some}
use Rattle.mp_base.specs.Entries.{IsAt}

pub flat_in : {X A : Type 0} (f : X → List A) (xs : List X) (a : A) → Contains (flat_map f xs) a
    → (k : ℕ) × (x : X) × IsAt xs k x × Contains (f x) a
flat_in f [] a (k, lt, is) = absurd (omega (arith, lt))
flat_in f (x ∷ xs) a c = elim (Contains-append_cases (f x) (flat_map f xs) a c) [
  | inl l ↦ (0, x, refl, l)
  | inr r ↦ (let (k, y, at, there) = flat_in f xs a r in (suc k, y, at, there))
]

pub flat_out : {X A : Type 0} (f : X → List A) (xs : List X) (k : ℕ) (x : X) (a : A) → IsAt xs k x → Contains (f x) a
    → Contains (flat_map f xs) a
flat_out f [] k x a at c = absurd (none-some x at)
flat_out {X = X} f (y ∷ xs) zero x a at c = let P : X → Type 0 = λ z. Contains (f z) a in
    Contains-append_left (f y) (flat_map f xs) a (subst P (sym (same_Some y x at)) c)
flat_out f (y ∷ xs) (suc k) x a at c = Contains-append_right (f y) (flat_map f xs) a (flat_out f xs k x a at c)

-- what holds of all that stands in joined lists holds of all that stands in one
pub all_flat : {X A : Type 0} (P : A → Type 0) (f : X → List A) (xs : List X) (k : ℕ) (x : X) → All P (flat_map f xs)
    → IsAt xs k x → All P (f x)
all_flat P f xs k x h is =
    λ j d lt. All-contains P (flat_map f xs) (get_or (f x) j d) h
    (flat_out f xs k x (get_or (f x) j d) is (Contains-get_or (f x) j d lt))
