-- How many rows intervals take.
use Rattle.std.specs.Prelude.{◌≡◌, ℕ, ◌<◌, ◌≤◌, List, All, length}
use Rattle.track_assign.specs.declared.packing.Interval.{Interval}
use Rattle.track_assign.specs.Density.{IsDensity, AreApart}

-- no rows that keep lengthened intervals apart are fewer than intervals lie over one column
abbrev pub FewestRows : Type 0
FewestRows =
    (intervals : List Interval) (rows column : ℕ) → IsDensity intervals rows column
    → (taken : List ℕ) (count : ℕ) → length taken ≡ length intervals → All (λ row. row < count) taken
    → AreApart intervals taken → rows ≤ count
