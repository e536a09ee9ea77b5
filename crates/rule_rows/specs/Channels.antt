-- Squares of channels.
use Rattle.std.specs.Prelude.{◌≡◌, ℕ, ◌<◌, ◌≤◌, ℤ, List, Option, None, Some, get_or, length}
use Rattle.lam_geom.specs.declared.layer.Layer.TheVariants.{ND, NP, NB}
use Rattle.lam_geom.specs.declared.place.Point.{Point}
use Rattle.lam_geom.specs.declared.rect.Rect.{Rect}
use Rattle.lam_geom.specs.Squares.{covered}
use Rattle.mask_tiles.specs.declared.tile.Tile.{Tile}

-- polysilicon over diffusion, and no buried contact
pub record IsChannel (shapes : List Rect) (x y : ℤ) : Type 0 where
  pub diffusion : covered shapes ND x y
  pub polysilicon : covered shapes NP x y
  pub unburied : ¬ covered shapes NB x y

-- the place is the corner of the tile with that number, which is the first of a colour above 1
pub record IsCornerOf (tiles : List Tile) (p : Point) (index : ℕ) : Type 0 where
  pub within : index < length tiles
  pub deep : (d : Tile) → 1 < (get_or tiles index d).colour
  pub x : (d : Tile) → p.x ≡ (get_or tiles index d).x0
  pub y : (d : Tile) → p.y ≡ (get_or tiles index d).y0
  pub first : (k : ℕ) (d : Tile) → k < index → (get_or tiles k d).colour ≤ 1

abbrev pub IsFirstDeep : List Tile → Option Point → Type 0
IsFirstDeep tiles None = (k : ℕ) (d : Tile) → k < length tiles → (get_or tiles k d).colour ≤ 1
IsFirstDeep tiles (Some p) = (index : ℕ) × IsCornerOf tiles p index
