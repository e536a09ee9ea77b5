-- What changes from one row to the next.
use Rattle.std.specs.Prelude.{◌≡◌, ℕ, ◌+◌, ◌<◌, ◌≤◌, ◌⊎◌, ◌↔◌, List, All, AllPairs, Contains}
use Rattle.mask_runs.specs.declared.run.Run.{Run}
use Rattle.mask_runs.specs.Runs.{IsRun}

-- they lie in a row of so many cells, apart and from left to right
pub record LieInRow (cells : ℕ) (runs : List Run) : Type 0 where
  pub wide : All (λ r. r.left < r.right) runs
  pub within : All (λ r. r.right ≤ cells) runs
  pub ascending : AllPairs (λ p q. p.right ≤ q.left) runs

-- `old` are runs of row y and `new` are runs of row y + 1, among them all that only one of the rows has, all that both
-- lists might have alike, and all of row y + 1 that adjoin one that row y lacks
pub record IsChange (colour : ℕ → ℕ → ℕ) (y : ℕ) (old new : List Run) : Type 0 where
  pub lasts : All (IsRun (colour y)) old
  pub firsts : All (IsRun (colour (y + 1))) new
  pub goes : (r : Run) → IsRun (colour y) r → Contains old r ⊎ IsRun (colour (y + 1)) r
  pub comes : (r : Run) → IsRun (colour (y + 1)) r → Contains new r ⊎ IsRun (colour y) r
  pub stays : (r : Run) → IsRun (colour y) r → IsRun (colour (y + 1)) r → Contains old r ↔ Contains new r
  pub beside : (p q : Run) → IsRun (colour (y + 1)) p → IsRun (colour (y + 1)) q
      → (p.right ≡ q.left) ⊎ (q.right ≡ p.left)
      → ¬ IsRun (colour y) q → Contains new p
