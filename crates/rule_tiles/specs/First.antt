-- The first square of a kind.
use Rattle.std.specs.Prelude.{◌≡◌, ◌⊎◌, ℤ, ◌<ℤ◌, Option, Some, None}
use Rattle.lam_geom.specs.declared.place.Point.{Point}

-- the least square of a kind by y and then by x, or none where there is none
abbrev pub IsFirst : (ℤ → ℤ → Type 0) → Option Point → Type 0
IsFirst Is (Some p) = Is p.x p.y × ((x y : ℤ) → (y <ℤ p.y) ⊎ (y ≡ p.y) × (x <ℤ p.x) → ¬ Is x y)
IsFirst Is None = (x y : ℤ) → ¬ Is x y
