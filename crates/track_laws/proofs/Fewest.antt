-- Rows that keep lengthened intervals apart are no fewer than intervals lie over one column.
use Rattle.std.proofs.Common.{◌≡◌, ◌⊎◌, inl, inr, ℕ, zero, suc, ◌+◌, ◌<◌, ◌≤◌, List, [], ◌∷◌, Some, refl, ap, arith}
use Rattle.std.proofs.Common.{length, nat_lt, if◌then◌else◌, slice_get, ◌==◌}
use Rattle.std.specs.Prelude.{All}
use Rattle.std.proofs.lemmas.List.Sums.{sum_by-cons}
use Rattle.track_assign.specs.declared.packing.Interval.{Interval}
use Rattle.track_assign.specs.Density.{lies_over, over, EndsBefore, AreApart}
use Rattle.track_laws.specs.Fewest.{FewestRows}

-- how many intervals of a row lie over a column
abbrev held : ℕ → ℕ → List Interval → List ℕ → ℕ
held row c [] rs = 0
held row c (x ∷ xs) [] = 0
held row c (x ∷ xs) (r ∷ rs) = (if r == row then lies_over c x else 0) + held row c xs rs

-- and of all rows below a number
abbrev below : ℕ → ℕ → List Interval → List ℕ → ℕ
below row c [] rs = 0
below row c (x ∷ xs) [] = 0
below row c (x ∷ xs) (r ∷ rs) = (if nat_lt r row then lies_over c x else 0) + below row c xs rs

meets : (c : ℕ) (x y : Interval) → EndsBefore x y ⊎ EndsBefore y x → lies_over c x ≡ 1 → lies_over c y ≡ 0
meets c x y apart here = grind arith

short : (c : ℕ) (x : Interval) → (lies_over c x ≡ 0) ⊎ (lies_over c x ≡ 1)
short c x = grind arith

none : (row c : ℕ) (xs : List Interval) (rs : List ℕ)
    → ((j : ℕ) (y : Interval) → slice_get xs j ≡ Some y → slice_get rs j ≡ Some row → lies_over c y ≡ 0)
    → held row c xs rs ≡ 0
none row c [] rs free = refl
none row c (x ∷ xs) [] free = refl
none row c (x ∷ xs) (r ∷ rs) free =
    let later = none row c xs rs (λ j y at is. free (suc j) y at is) in
    let first = free 0 x refl in
    grind arith

tail : (x : Interval) (xs : List Interval) (r : ℕ) (rs : List ℕ) → AreApart (x ∷ xs) (r ∷ rs) → AreApart xs rs
tail x xs r rs apart = λ i j row y z differ at is at_z is_z. apart (suc i) (suc j) row y z (λ e. differ (grind arith)) at is at_z is_z

one : (row c : ℕ) (xs : List Interval) (rs : List ℕ) → AreApart xs rs → held row c xs rs ≤ 1
one row c [] rs apart = grind arith
one row c (x ∷ xs) [] apart = grind arith
one row c (x ∷ xs) (r ∷ rs) apart =
    let later = one row c xs rs (tail x xs r rs apart) in
    elim (short c x) [
      | inl away ↦ grind arith
      | inr here ↦
          let none_later : (r ≡ row) → held row c xs rs ≡ 0 =
          λ e. none row c xs rs (λ j y at is.
          meets c x y (apart 0 (suc j) row x y (λ z. absurd (grind arith)) refl (ap Some e) at is) here) in
          grind arith
    ]

step : (row c : ℕ) (xs : List Interval) (rs : List ℕ) → below (suc row) c xs rs ≡ below row c xs rs + held row c xs rs
step row c [] rs = refl
step row c (x ∷ xs) [] = refl
step row c (x ∷ xs) (r ∷ rs) = let later = step row c xs rs in grind arith

nothing : (c : ℕ) (xs : List Interval) (rs : List ℕ) → below 0 c xs rs ≡ 0
nothing c [] rs = refl
nothing c (x ∷ xs) [] = refl
nothing c (x ∷ xs) (r ∷ rs) = let later = nothing c xs rs in grind arith

few : (row c : ℕ) (xs : List Interval) (rs : List ℕ) → AreApart xs rs → below row c xs rs ≤ row
few zero c xs rs apart = let e = nothing c xs rs in omega (arith, e)
few (suc row) c xs rs apart =
    let a = few row c xs rs apart in let b = one row c xs rs apart in let s = step row c xs rs in omega (arith, a, b, s)

all : (count c : ℕ) (xs : List Interval) (rs : List ℕ) → length rs ≡ length xs → All (λ row. row < count) rs
    → below count c xs rs ≡ over c xs
all count c [] rs as_many within = refl
all count c (x ∷ xs) [] as_many within = absurd (omega (arith, as_many))
all count c (x ∷ xs) (r ∷ rs) as_many within =
    let rest : All (λ row. row < count) rs = λ k d lt. within (suc k) d (omega (arith, lt)) in
    let later = all count c xs rs (omega (arith, as_many)) rest in
    let sum = sum_by-cons (lies_over c) x xs in
    let inside : r < count = within 0 0 (omega arith) in
    grind arith

pub fewest_rows : FewestRows
fewest_rows intervals rows column density taken count as_many within apart =
    let a = few count column intervals taken apart in
    let b = all count column intervals taken as_many within in
    let d = density.reached in
    omega (arith, a, b, d)
