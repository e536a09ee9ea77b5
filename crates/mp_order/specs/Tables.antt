-- Numbers in a list that are lifted.
use Rattle.std.specs.Prelude.{◌≡◌, ◌⊎◌, ℕ, ◌<◌, ◌≤◌, List, length, slice_index}

-- each number is what it was or one that G gives to its index, and is as great as what it was and as all that G gives
pub record Lifted (G : ℕ → ℕ → Type 0) (old new : List ℕ) : Type 0 where
  pub size : length new ≡ length old
  pub met : (i : ℕ) → (slice_index new i ≡ slice_index old i) ⊎ G i (slice_index new i)
  pub grown : (i : ℕ) → slice_index old i ≤ slice_index new i
  pub bound : (i k : ℕ) → i < length old → G i k → k ≤ slice_index new i
