-- The cells of a row that change their colours, as pieces.
use Rattle.std.specs.Prelude.{◌≡◌, ◌≢◌, ℕ, ◌<◌, ◌≤◌, List, All, AllPairs, Contains}
use Rattle.mask_runs.specs.declared.run.Run.{Run}

-- the cell is in one of the pieces
pub record IsIn (pieces : List Run) (c : ℕ) : Type 0 where
  pub piece : Run
  pub listed : Contains pieces piece
  pub from : piece.left ≤ c
  pub to : c < piece.right

-- the pieces have exactly the cells before `end` whose colours differ, with their colours after, from left to right
pub record AreChanges (before after : ℕ → ℕ) (end : ℕ) (pieces : List Run) : Type 0 where
  pub wide : All (λ p. p.left < p.right) pieces
  pub within : All (λ p. p.right ≤ end) pieces
  pub each : All (λ p. (c : ℕ) → p.left ≤ c → c < p.right → after c ≡ p.colour) pieces
  pub other : All (λ p. (c : ℕ) → p.left ≤ c → c < p.right → before c ≢ p.colour) pieces
  pub all : (c : ℕ) → c < end → before c ≢ after c → IsIn pieces c
  pub ascending : AllPairs (λ p q. p.right ≤ q.left) pieces
