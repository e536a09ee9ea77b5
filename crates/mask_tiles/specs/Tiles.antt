-- The tiles of a mask.
use Rattle.std.specs.Prelude.{◌≡◌, ◌⊎◌, ℕ, ◌<◌, ℤ, negsuc, ◌+ℤ◌, ◌<ℤ◌, ◌≤ℤ◌, List, All, AllPairs, Contains, Option}
use Rattle.std.specs.Prelude.{Some, None, slice_get}
use Rattle.lam_geom.specs.declared.rect.Rect.{Rect}
use Rattle.lam_geom.specs.declared.place.Point.{Point}
use Rattle.mask_runs.specs.declared.mask.Mask.{Mask}
use Rattle.mask_runs.specs.Colours.{HasColour}
use Rattle.mask_tiles.specs.declared.tile.Tile.{Tile}

-- a longest stretch of places of one kind, from a up to b, which is outside
pub record IsLongest (Is : ℤ → Type 0) (a b : ℤ) : Type 0 where
  pub some : a <ℤ b
  pub each : (z : ℤ) → a ≤ℤ z → z <ℤ b → Is z
  pub before : ¬ Is (a +ℤ negsuc 0)
  pub after : ¬ Is b

-- a longest row of squares of one colour, each by its lower left corner
abbrev pub IsSpan : List Rect → Mask → ℕ → ℤ → ℤ → ℤ → Type 0
IsSpan shapes mask k x0 x1 y = IsLongest (λ x. HasColour shapes mask k x y) x0 x1

-- a longest stack of rows, of which each is such a longest row between the same ends
pub record IsTile (shapes : List Rect) (mask : Mask) (t : Tile) : Type 0 where
  pub some : 0 < t.colour
  pub stack : IsLongest (IsSpan shapes mask t.colour t.x0 t.x1) t.y0 t.y1

-- its lowest row is lower, or as low and further to the left
abbrev pub Before : Tile → Tile → Type 0
Before s t = (s.y0 <ℤ t.y0) ⊎ (s.y0 ≡ t.y0) × (s.x0 <ℤ t.x0)

-- the list has exactly the tiles of the mask, in the order of their lower left squares
pub record AreTiles (shapes : List Rect) (mask : Mask) (tiles : List Tile) : Type 0 where
  pub each : All (IsTile shapes mask) tiles
  pub all : (t : Tile) → IsTile shapes mask t → Contains tiles t
  pub ascending : AllPairs Before tiles

-- the square is one of the tile's
pub record InTile (t : Tile) (x y : ℤ) : Type 0 where
  pub left : t.x0 ≤ℤ x
  pub right : x <ℤ t.x1
  pub bottom : t.y0 ≤ℤ y
  pub top : y <ℤ t.y1

-- each square of a colour above 0 is in a tile of that colour
pub record AreWhole (shapes : List Rect) (mask : Mask) (tiles : List Tile) : Type 0 where
  pub tile : (k : ℕ) (x y : ℤ) → 0 < k → HasColour shapes mask k x y
      → (t : Tile) × Contains tiles t × (t.colour ≡ k) × InTile t x y

-- the number of the tile that has the square of a place, or none where that square has no colour
abbrev pub IsTileOf : List Rect → Mask → List Tile → Point → Option ℕ → Type 0
IsTileOf shapes mask tiles p (Some n) = (t : Tile) × (slice_get tiles n ≡ Some t) × InTile t p.x p.y
IsTileOf shapes mask tiles p None = HasColour shapes mask 0 p.x p.y
