-- Bits of a word.
use Rattle.std.specs.Prelude.{◌≡◌, ℕ, ◌<◌, ◌≤◌}
use Rattle.std.specs.Int.{bit_at}

-- the lowest bit that is set from a place on
pub record IsLowest (word from k : ℕ) : Type 0 where
  pub small : k < 64
  pub order : from ≤ k
  pub is_set : bit_at word k ≡ 1
  pub none : (i : ℕ) → from ≤ i → i < k → bit_at word i ≡ 0

-- the highest bit that is set below a place
pub record IsHighest (word to k : ℕ) : Type 0 where
  pub order : k < to
  pub is_set : bit_at word k ≡ 1
  pub none : (i : ℕ) → k < i → i < to → bit_at word i ≡ 0
