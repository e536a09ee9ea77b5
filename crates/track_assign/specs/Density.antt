-- How many intervals lie over a column, and rows that hold them.
use Rattle.std.specs.Prelude.{◌≡◌, ◌≢◌, ◌⊎◌, ℕ, ◌+◌, ◌^◌, ◌<◌, ◌≤◌, List, ◌&&◌, nat_le, if◌then◌else◌, Some, slice_get}
use Rattle.std.specs.List.{sum_by}
use Rattle.track_assign.specs.declared.packing.Interval.{Interval}

-- the interval has a column, and can be lengthened by one
pub record IsInterval (i : Interval) : Type 0 where
  pub ordered : i.first ≤ i.last
  pub near : i.last + 1 < 2 ^ 32

-- 1 where the interval, lengthened by one column to the right, lies over the column
abbrev pub lies_over : ℕ → Interval → ℕ
lies_over column i = if nat_le i.first column && nat_le column (i.last + 1) then 1 else 0

-- how many lengthened intervals lie over a column
abbrev pub over : ℕ → List Interval → ℕ
over column intervals = sum_by (lies_over column) intervals

-- as many as there are rows lie over this column, nowhere more, and nowhere to the left as many
pub record IsDensity (intervals : List Interval) (rows column : ℕ) : Type 0 where
  pub most : (c : ℕ) → over c intervals ≤ rows
  pub reached : over column intervals ≡ rows
  pub least : (c : ℕ) → c < column → over c intervals < rows

-- the first interval, lengthened by one column, ends before the second
abbrev pub EndsBefore : Interval → Interval → Type 0
EndsBefore x y = x.last + 1 < y.first

-- two lengthened intervals of one row share no column
abbrev pub AreApart : List Interval → List ℕ → Type 0
AreApart intervals rows = (i j row : ℕ) (x y : Interval) → i ≢ j
    → slice_get intervals i ≡ Some x → slice_get rows i ≡ Some row
    → slice_get intervals j ≡ Some y → slice_get rows j ≡ Some row
    → EndsBefore x y ⊎ EndsBefore y x
