-- Drawings whose squares tell of neighbours in another drawing.
use Rattle.std.specs.Prelude.{◌≡◌, ◌⊎◌, ◌↔◌, ℕ, ℤ, pos, neg_ℤ, ◌+ℤ◌, ◌-ℤ◌, ◌≤ℤ◌, List}
use Rattle.lam_geom.specs.declared.layer.Layer.{Layer}
use Rattle.lam_geom.specs.declared.rect.Rect.{Rect}
use Rattle.lam_geom.specs.Squares.{covered}
use Rattle.rule_rows.specs.declared.side.Side.{Side}
use Rattle.rule_rows.specs.declared.side.Side.TheVariants.{Right, Left, Above, Below}
use Rattle.rule_rows.specs.declared.side.Reach.{Reach}
use Rattle.rule_rows.specs.Sides.{way_of, Reaches}

-- how far from the origin the edges of derived drawings may be
abbrev pub bound : ℕ
bound = 4_398_046_511_104

abbrev pub IsWithin : ℤ → Type 0
IsWithin z = (neg_ℤ (pos bound) ≤ℤ z) × (z ≤ℤ pos bound)

-- all edges are at most that far
pub record IsBounded (r : Rect) : Type 0 where
  pub x0 : IsWithin r.x0
  pub y0 : IsWithin r.y0
  pub x1 : IsWithin r.x1
  pub y1 : IsWithin r.y1

-- the squares that have one of the rectangle's within reach
abbrev pub spread_of : Side → Layer → ℕ → ℕ → Rect → Rect
spread_of Right l near far r =
    record { layer = l; x0 = r.x0 -ℤ pos far; y0 = r.y0; x1 = r.x1 -ℤ pos near; y1 = r.y1 }
spread_of Left l near far r =
    record { layer = l; x0 = r.x0 +ℤ pos near; y0 = r.y0; x1 = r.x1 +ℤ pos far; y1 = r.y1 }
spread_of Above l near far r =
    record { layer = l; x0 = r.x0; y0 = r.y0 -ℤ pos far; x1 = r.x1; y1 = r.y1 -ℤ pos near }
spread_of Below l near far r =
    record { layer = l; x0 = r.x0; y0 = r.y0 +ℤ pos near; x1 = r.x1; y1 = r.y1 +ℤ pos far }

-- the new drawing covers on a layer, besides, the squares that have a covered one within reach
pub record AreSpread (on : ℤ → ℤ → Type 0) (layer : Layer) (reach : Reach) (old new : List Rect) : Type 0 where
  pub each : (l : Layer) (x y : ℤ)
      → covered new l x y
      ↔ covered old l x y ⊎ (l ≡ layer) × Reaches on (way_of reach.side) reach.near reach.far x y
