-- Where gaps begin.
use Rattle.std.specs.Prelude.{ℕ, ◌-◌, ℤ}
use Rattle.lam_geom.specs.Rules.{Way, against, At}
use Rattle.rule_rows.specs.Sides.{Reaches}

-- a square that isn't covered, just behind it one that is, and another ahead of it, nearer than a size
pub record BeginsGap (on : ℤ → ℤ → Type 0) (w : Way) (size : ℕ) (x y : ℤ) : Type 0 where
  pub behind : At on (against w) x y 1
  pub open_ : ¬ on x y
  pub ahead : Reaches on w 0 (size - 1) x y
