-- Windows of a row, around the cells that may change.
use Rattle.std.specs.Prelude.{◌≡◌, ◌||◌, ◌&&◌, ℕ, ◌+◌, ◌<◌, ◌≤◌, List, [], ◌∷◌, All, AllPairs, Bool, false, nat_le}
use Rattle.std.specs.Prelude.{nat_lt, length, if◌then◌else◌}
use Rattle.std.specs.List.Sorted.{IsNonDecreasingBy}
use Rattle.mask_runs.specs.declared.run.Run.{Run}
use Rattle.mask_runs.specs.Runs.{AreRuns}
use Rattle.strip_rows.specs.Changes.{IsChange}
use Rattle.strip_rows.specs.Missing.{run}
use Rattle.row_windows.specs.declared.window.Window.{Window}

-- one of the runs has the cell
pub record Touches (runs : List Run) (c : ℕ) : Type 0 where
  pub place : ℕ
  pub among : place < length runs
  pub from : (run runs place).left ≤ c
  pub to : c < (run runs place).right

-- cells that none of these runs has are of one colour in both rows
abbrev pub ChangeAt : List Run → (ℕ → ℕ) → (ℕ → ℕ) → Type 0
ChangeAt runs old new = (c : ℕ) → (¬ Touches runs c) → old c ≡ new c

-- each run has cells, before the last one of so many, and they stand from left to right
pub record AreFit (cells : ℕ) (runs : List Run) : Type 0 where
  pub wide : All (λ e. e.left < e.right) runs
  pub within : All (λ e. e.right < cells) runs
  pub ascending : IsNonDecreasingBy (λ e. e.left) runs

-- the last cell of the row has no colour, nor has any past it
abbrev pub IsGuarded : ℕ → (ℕ → ℕ) → Type 0
IsGuarded cells colour = (c : ℕ) → cells ≤ c + 1 → colour c ≡ 0

-- they lie apart, from left to right, in so many cells
pub record AreApart (cells : ℕ) (windows : List Window) : Type 0 where
  pub within : All (λ w. w.to ≤ cells) windows
  pub ascending : AllPairs (λ v w. v.to < w.from) windows

-- whether one of the windows has the cell
unfoldable pub in_windows : List Window → ℕ → Bool
in_windows [] c = false
in_windows (w ∷ ws) c = nat_le w.from c && nat_lt c w.to || in_windows ws c

-- the colours of the cells in the windows, and 0 beside them
abbrev pub seen : List Window → (ℕ → ℕ) → ℕ → ℕ
seen windows colour c = if in_windows windows c then colour c else 0

-- the runs in the windows, in row y and in the next row, tell all that changes
abbrev pub TellChange : (ℕ → ℕ → ℕ) → ℕ → List Window → Type 0
TellChange colour y windows = (old new : List Run) → AreRuns (seen windows (colour y)) old
    → AreRuns (seen windows (colour (y + 1))) new
    → IsChange colour y old new
