-- The least square of those that are so, in the order of y, then x.
use Rattle.std.specs.Prelude.{◌≡◌, ◌⊎◌, ℤ, ◌<ℤ◌, Option, None, Some, ⊤}
use Rattle.lam_geom.specs.declared.place.Point.{Point}

-- it is so here, and at no square before
pub record IsFirst (Is : ℤ → ℤ → Type 0) (x y : ℤ) : Type 0 where
  pub here : Is x y
  pub least : (p q : ℤ) → (q <ℤ y) ⊎ (q ≡ y) × (p <ℤ x) → ¬ Is p q

-- the place is the least square that is so, or there is none
abbrev pub IsFirstOf : (ℤ → ℤ → Type 0) → Option Point → Type 0
IsFirstOf Is None = (x y : ℤ) → ¬ Is x y
IsFirstOf Is (Some p) = IsFirst Is p.x p.y

-- the first isn't after the second, where nothing is after all squares
abbrev pub IsNoLater : Option Point → Option Point → Type 0
IsNoLater _ None = ⊤
IsNoLater None (Some q) = ⊥
IsNoLater (Some p) (Some q) = ¬ ((q.y <ℤ p.y) ⊎ (q.y ≡ p.y) × (q.x <ℤ p.x))

-- the result is the earlier of two
pub record IsEarlier (a b result : Option Point) : Type 0 where
  pub which : (result ≡ a) × IsNoLater a b ⊎ (result ≡ b) × IsNoLater b a
