-- Directions as the lambda rules name them.
use Rattle.std.specs.Prelude.{ℕ, ◌≤◌, ℤ}
use Rattle.lam_geom.specs.Rules.{Way, right, left, up, down, At}
use Rattle.rule_rows.specs.declared.side.Side.{Side}
use Rattle.rule_rows.specs.declared.side.Side.TheVariants.{Right, Left, Above, Below}

abbrev pub way_of : Side → Way
way_of Right = right
way_of Left = left
way_of Above = up
way_of Below = down

-- a square in that direction is so, from the one `near` away up to the one `far` away
abbrev pub Reaches : (ℤ → ℤ → Type 0) → Way → ℕ → ℕ → ℤ → ℤ → Type 0
Reaches on w near far x y = (k : ℕ) × (near ≤ k) × (k ≤ far) × At on w x y k
