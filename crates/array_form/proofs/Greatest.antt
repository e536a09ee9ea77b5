-- The greatest of numbers, for all crates above.
use Rattle.std.proofs.Common.{[], List, ℕ, ◌++◌, ◌∷◌, ◌≡◌, arith, ◌≤◌, inl, refl, inr}
use Rattle.std.specs.Prelude.{max}
use Rattle.mp_base.proofs.Members.{Member}
use Rattle.array_form.specs.Homes.{greatest}
use Rattle.array_form.proofs.Homes.{greatest_above, greatest_in}

pub greatest_push : (xs : List ℕ) (x : ℕ) → greatest (xs ++ x ∷ []) ≡ max (greatest xs) x
greatest_push [] x = omega arith
greatest_push (y ∷ ys) x = let i = greatest_push ys x in omega arith

-- the greatest of numbers that are all among others is among them
pub greatest_within : (xs ys : List ℕ) (c : ℕ) → Member xs c → ((a : ℕ) → Member xs a → Member ys a)
    → greatest xs ≤ greatest ys
greatest_within [] ys c m sub = absurd m
greatest_within (x ∷ xs) ys c m sub =
    greatest_above ys (greatest (x ∷ xs)) (sub (greatest (x ∷ xs)) (greatest_in x xs))

pub greatest_most : (xs : List ℕ) (most : ℕ) → ((a : ℕ) → Member xs a → a ≤ most) → greatest xs ≤ most
greatest_most [] most h = omega arith
greatest_most (x ∷ xs) most h =
    let a = h x (inl refl) in let b = greatest_most xs most (λ z m. h z (inr m)) in omega arith
