-- How far runs reach from a cell.
use Rattle.std.specs.Prelude.{◌≡◌, ◌⊎◌, ℕ, ◌+◌, ◌<◌, ◌≤◌, List, [], ◌∷◌, ◌++◌, max}
use Rattle.mask_runs.specs.declared.run.Run.{Run}
use Rattle.mask_runs.specs.Runs.{IsRun}
use Rattle.row_windows.specs.declared.window.Window.{Window}

-- the cell before has no colour
abbrev pub IsBlankBefore : (ℕ → ℕ) → ℕ → Type 0
IsBlankBefore colour cell = (c : ℕ) → c + 1 ≡ cell → colour c ≡ 0

-- a run from there on has the cell before
pub record HasBefore (colour : ℕ → ℕ) (cell reached : ℕ) : Type 0 where
  pub run : Run
  pub is : IsRun colour run
  pub left : run.left ≡ reached
  pub order : reached < cell
  pub right : cell ≤ run.right

abbrev pub ReachesLeft : (ℕ → ℕ) → ℕ → ℕ → Type 0
ReachesLeft colour cell reached = (reached ≡ cell) × IsBlankBefore colour cell ⊎ HasBefore colour cell reached

-- a run up to there has the cell
pub record HasHere (colour : ℕ → ℕ) (cell reached : ℕ) : Type 0 where
  pub run : Run
  pub is : IsRun colour run
  pub right : run.right ≡ reached
  pub order : cell < reached
  pub left : run.left ≤ cell

abbrev pub ReachesRight : (ℕ → ℕ) → ℕ → ℕ → Type 0
ReachesRight colour cell reached = (reached ≡ cell) × (colour cell ≡ 0) ⊎ HasHere colour cell reached

-- a run from there on ends before the cell
pub record EndsBefore (colour : ℕ → ℕ) (cell reached : ℕ) : Type 0 where
  pub run : Run
  pub is : IsRun colour run
  pub left : run.left ≡ reached
  pub right : run.right < cell

-- no run, or one that ends before the cell, begins there at the cell or before it
pub record IsLeftOf (colour : ℕ → ℕ) (cell reached : ℕ) : Type 0 where
  pub order : reached ≤ cell
  pub by : IsBlankBefore colour reached ⊎ EndsBefore colour cell reached

-- a run up to there begins after the cell
pub record BeginsAfter (colour : ℕ → ℕ) (cell reached : ℕ) : Type 0 where
  pub run : Run
  pub is : IsRun colour run
  pub right : run.right ≡ reached
  pub left : cell < run.left

-- and the same to the right
pub record IsRightOf (colour : ℕ → ℕ) (cell reached : ℕ) : Type 0 where
  pub order : cell ≤ reached
  pub by : (colour reached ≡ 0) ⊎ BeginsAfter colour cell reached

-- the open window goes on over the run
pub record IsJoined (current : Window) (e : Run) (old now : List Window) (next : Window) : Type 0 where
  pub same : now ≡ old
  pub from : next.from ≡ current.from
  pub to : next.to ≡ max current.to e.right

-- it has been added, and the next one opens at the run
pub record IsBegun (colour : ℕ → ℕ) (cells : ℕ) (current : Window) (e : Run) (old now : List Window)
    (next : Window) : Type 0 where
  pub end : ℕ
  pub right : IsRightOf colour current.to end
  pub within : end < cells
  pub added : now ≡ old ++ record { from = current.from; to = end } ∷ []
  pub left : IsLeftOf colour e.left next.from
  pub to : next.to ≡ e.right
  pub apart : end < next.from

abbrev pub IsOpened : (ℕ → ℕ) → ℕ → Window → Run → List Window → List Window → Window → Type 0
IsOpened colour cells current e old now next =
    IsJoined current e old now next ⊎ IsBegun colour cells current e old now next
