-- Spans of one coordinate, each from a first place up to an end that is outside.
use Rattle.std.specs.Prelude.{◌≡◌, ◌⊎◌, ℤ, ◌<ℤ◌}

-- they have a common place
pub record Overlap (a0 a1 b0 b1 : ℤ) : Type 0 where
  pub first : a0 <ℤ a1
  pub second : b0 <ℤ b1
  pub below : a0 <ℤ b1
  pub above : b0 <ℤ a1

-- one ends where the other begins, and neither is empty
pub record Meet (a0 a1 b0 b1 : ℤ) : Type 0 where
  pub first : a0 <ℤ a1
  pub second : b0 <ℤ b1
  pub ends : (a1 ≡ b0) ⊎ (b1 ≡ a0)
