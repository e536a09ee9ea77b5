-- What a path must give so that its columns are few.
use Rattle.std.specs.Prelude.{◌≡◌, ◌+◌, ◌≤◌, ℕ, false, length}
use Rattle.nor_net.specs.declared.net.Part.{Part}
use Rattle.slice_form.specs.Path.{Path}
use Rattle.slice_form.specs.Slices.{control_stub, slice_stub}
use Rattle.array_form.specs.Place.{is_input}
use Rattle.std.specs.List.{sum_by}
use Rattle.std.specs.Prelude.{cond}

-- 1 for a gate or a latch
abbrev pub active : Part → ℕ
active q = cond (is_input q) 0 1

-- by the cost: gates and latches with casts and lifts, in the control; and in a slice, chains and programmed nets
-- too; and each input is used
pub record IsNarrow (cost : ℕ) (p : Path) : Type 0 where
  pub control : sum_by active p.control + (length p.casts + length p.lifts) ≤ cost
  pub slice : sum_by active p.slice + (length p.chains + length p.programs) + (length p.casts + length p.lifts) ≤ cost
  pub control_used : (n : ℕ) → control_stub p n ≡ false
  pub slice_used : (n : ℕ) → slice_stub p n ≡ false
