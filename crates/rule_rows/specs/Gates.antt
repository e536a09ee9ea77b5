-- Channels that are open toward one side.
use Rattle.std.specs.Prelude.{◌≡◌, ◌↔◌, ℤ, pos, ◌+ℤ◌, ◌-ℤ◌, ◌≤ℤ◌, ◌<ℤ◌, ◌<◌, ◌≤◌, unsigned_abs, List}
use Rattle.mask_tiles.specs.declared.tile.Tile.{Tile}
use Rattle.lam_geom.specs.declared.layer.Layer.{Layer}
use Rattle.lam_geom.specs.declared.layer.Layer.TheVariants.{ND, NP, NB, NI}
use Rattle.lam_geom.specs.declared.rect.Rect.{Rect}
use Rattle.lam_geom.specs.Squares.{covered}
use Rattle.lam_geom.specs.Rules.{Way, At, IsBad}
use Rattle.lam_geom.specs.Rules.Way.{right, left, up, down}
use Rattle.rule_rows.specs.Channels.{IsChannel}

pub record IsOpenToward (covers : Layer → ℤ → ℤ → Type 0) (w : Way) (x y : ℤ) : Type 0 where
  pub gate : covers NP x y
  pub diffusion : covers ND x y
  pub unburied : ¬ covers NB x y
  pub bad : IsBad covers w x y

-- the place lies in a stretch of two lambda of which all places are so
pub record IsLong (is : ℤ → Type 0) (z : ℤ) : Type 0 where
  pub from : ℤ
  pub left : from ≤ℤ z
  pub right : z <ℤ (from +ℤ pos 1000)
  pub each : (t : ℤ) → from ≤ℤ t → t <ℤ (from +ℤ pos 1000) → is t

-- a tile of channels, two lambda wide
pub record IsWide (t : Tile) : Type 0 where
  pub deep : 1 < t.colour
  pub wide : 1000 ≤ unsigned_abs (t.x1 -ℤ t.x0)

-- so it is along the row or the column of a square
abbrev pub IsLongAlong : Way → (ℤ → ℤ → Type 0) → ℤ → ℤ → Type 0
IsLongAlong right is x y = IsLong (λ t. is t y) x
IsLongAlong left is x y = IsLong (λ t. is t y) x
IsLongAlong up is x y = IsLong (λ t. is x t) y
IsLongAlong down is x y = IsLong (λ t. is x t) y

-- the neighbour that way has polysilicon and no diffusion
pub record IsBeside (covers : Layer → ℤ → ℤ → Type 0) (w : Way) (x y : ℤ) : Type 0 where
  pub polysilicon : At (covers NP) w x y 1
  pub bare : ¬ At (covers ND) w x y 1

-- the drawing covers, on the layer of buried contacts alone, the squares that are in a long stretch
pub record AreLong (w : Way) (is : ℤ → ℤ → Type 0) (rects : List Rect) : Type 0 where
  pub each : (l : Layer) (x y : ℤ) → covered rects l x y ↔ (l ≡ NB) × IsLongAlong w is x y

-- the drawing has no implant
abbrev pub IsPlain : List Rect → Type 0
IsPlain drawing = (x y : ℤ) → ¬ covered drawing NI x y

-- the drawing's channels are those squares, and none has implant
pub record AreChannels (drawing : List Rect) (is : ℤ → ℤ → Type 0) : Type 0 where
  pub plain : IsPlain drawing
  pub each : (x y : ℤ) → IsChannel drawing x y ↔ is x y

-- the drawing covers what the other does with x and y exchanged
pub record IsTurned (old new : List Rect) : Type 0 where
  pub each : (l : Layer) (x y : ℤ) → covered new l x y ↔ covered old l y x
