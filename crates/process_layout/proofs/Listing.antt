-- Entries of lists that are put together.
use Rattle.std.proofs.Common.{
  ◌≡◌,
  ◌⊎◌,
  inl,
  inr,
  ℕ,
  zero,
  suc,
  ◌+◌,
  List,
  [],
  ◌∷◌,
  ◌++◌,
  sym,
  arith,
  length,
  zero-add,
}
use Rattle.mp_base.specs.Entries.{IsAt}

pub at_cases : {X : Type 0} (xs ys : List X) (k : ℕ) (x : X) → IsAt (xs ++ ys) k x
    → IsAt xs k x ⊎ ((j : ℕ) × (k ≡ length xs + j) × IsAt ys j x)
at_cases [] ys k x at = inr (k, sym (zero-add k), at)
at_cases (z ∷ zs) ys zero x at = inl at
at_cases {X} (z ∷ zs) ys (suc k) x at = elim (at_cases zs ys k x at) as (λ _.
    IsAt (z ∷ zs) (suc k) x ⊎ ((j : ℕ) × (suc k ≡ length (z ∷ zs) + j) × IsAt ys j x)) [
      | inl left ↦ inl left
      | inr (j, e, right) ↦ inr (j, omega (arith, e), right)
    ]
