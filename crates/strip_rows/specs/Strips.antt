-- Strips of cells: a run in a longest series of rows. `colour y c` is that of cell c in row y, and 0 is none.
use Rattle.std.specs.Prelude.{◌≡◌, ℕ, ◌+◌, ◌<◌, ◌≤◌, ◌⊎◌, List, All, AllPairs, Contains, slice_index_or}
use Rattle.mask_runs.specs.declared.run.Run.{Run}
use Rattle.mask_runs.specs.Runs.{IsRun}
use Rattle.strip_rows.specs.declared.strip.Strip.{Strip}

-- the run that the strip has in each of its rows
abbrev pub run_of : Strip → Run
run_of s = record { left = s.left; right = s.right; colour = s.colour }

-- each row of the strip has its run; the rows next below and above don't
pub record IsStrip (colour : ℕ → ℕ → ℕ) (s : Strip) : Type 0 where
  pub tall : s.low < s.high
  pub each : (y : ℕ) → s.low ≤ y → y < s.high → IsRun (colour y) (run_of s)
  pub below : (y : ℕ) → y + 1 ≡ s.low → ¬ IsRun (colour y) (run_of s)
  pub above : ¬ IsRun (colour s.high) (run_of s)

-- the first begins in a lower row, or in the same row further left
abbrev pub IsBefore : Strip → Strip → Type 0
IsBefore s t = (s.low < t.low) ⊎ (s.low ≡ t.low) × (s.left < t.left)

-- the list has exactly the strips, in the order of their lower left cells
pub record AreStrips (colour : ℕ → ℕ → ℕ) (strips : List Strip) : Type 0 where
  pub each : All (IsStrip colour) strips
  pub all : (s : Strip) → IsStrip colour s → Contains strips s
  pub ascending : AllPairs IsBefore strips

abbrev pub no_strip : Strip
no_strip = record { left = 0; right = 0; low = 0; high = 0; colour = 0 }

-- the strip of this number
abbrev pub strip : List Strip → ℕ → Strip
strip strips n = slice_index_or strips n no_strip
