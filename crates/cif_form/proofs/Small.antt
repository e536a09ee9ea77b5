-- Numbers of a list's elements that are all small.
use Rattle.std.proofs.Common.{◌≡◌, ◌↔◌, List, ◌∷◌, sym, ap, subst, All}
use Rattle.std.specs.Prelude.{ℤ}
use Rattle.std.proofs.lemmas.List.Elements.{All-append}
use Rattle.std.specs.List.{flat_map}
use Rattle.cif_form.specs.Fits.{IsSmall}
use Rattle.cif_form.proofs.Fitting.{front_part, back_part}

-- the numbers of the others are small where those of all are, if those of the first are
pub small_on : {X : Type 0} (f : X → List ℤ) (xs others : List X) (x : X) (P : Type 0) → xs ≡ x ∷ others
    → All IsSmall (f x)
    → All IsSmall (flat_map f xs) ↔ P → All IsSmall (flat_map f others) ↔ P
small_on f xs others x P e small same = (
  (λ k. same.0 (subst (All IsSmall) (sym (ap (flat_map f) e)) (All-append IsSmall (f x) (flat_map f others) small k))),
  (λ p. back_part (f x) (flat_map f others) (subst (All IsSmall) (ap (flat_map f) e) (same.1 p))),
)

pub small_at : {X : Type 0} (f : X → List ℤ) (xs others : List X) (x : X) (P : Type 0) → xs ≡ x ∷ others
    → All IsSmall (flat_map f xs) ↔ P → P → All IsSmall (f x)
small_at f xs others x P e same p =
    front_part (f x) (flat_map f others) (subst (All IsSmall) (ap (flat_map f) e) (same.1 p))
