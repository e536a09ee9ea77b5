-- Runs of one row of cells. `colour c` is that of cell c, and 0 is none.
use Rattle.std.specs.Prelude.{◌≡◌, ◌≢◌, ℕ, ◌+◌, ◌<◌, ◌≤◌, List, All, AllPairs, Contains}
use Rattle.mask_runs.specs.declared.run.Run.{Run}

-- a longest row of cells of one colour
pub record IsRun (colour : ℕ → ℕ) (r : Run) : Type 0 where
  pub some : 0 < r.colour
  pub wide : r.left < r.right
  pub each : (c : ℕ) → r.left ≤ c → c < r.right → colour c ≡ r.colour
  pub before : (c : ℕ) → c + 1 ≡ r.left → colour c ≢ r.colour
  pub after : colour r.right ≢ r.colour

-- the list has exactly the runs of the row, from left to right
pub record AreRuns (colour : ℕ → ℕ) (runs : List Run) : Type 0 where
  pub each : All (IsRun colour) runs
  pub all : (r : Run) → IsRun colour r → Contains runs r
  pub ascending : AllPairs (λ p q. p.right ≤ q.left) runs
