-- The grid that coordinates draw. Of n marks in order there are n + 1 cells: cell 0 is before the first mark, and each
-- other cell begins at its mark.
use Rattle.std.specs.Prelude.{◌≡◌, ℕ, suc, ◌-◌, ◌<◌, ◌≤◌, ℤ, pos, ◌<ℤ◌, List, [], ◌∷◌, All, AllPairs, Contains, cond}
use Rattle.std.specs.Prelude.{◌≤ℤ◌, int_le, slice_index_or, length, true}
use Rattle.lam_geom.specs.declared.rect.Rect.{Rect}
use Rattle.lam_geom.specs.declared.place.Point.{Point}
use Rattle.mask_runs.specs.declared.mask.Mask.{Mask}
use Rattle.mask_runs.specs.Colours.{uses}
use Rattle.region_sweep.specs.declared.block.Block.{Block}
use Rattle.strip_rows.specs.declared.strip.Strip.{Strip}
use Rattle.region_sweep.specs.declared.spot.Spot.{Spot}
use Rattle.mask_tiles.specs.declared.tile.Tile.{Tile}

-- the marks stand in order, each once
abbrev pub Ascending : List ℤ → Type 0
Ascending marks = AllPairs (λ a b. a <ℤ b) marks

-- the cell of a place: how many marks stand at or before it
abbrev pub cell_of : List ℤ → ℤ → ℕ
cell_of [] z = 0
cell_of (m ∷ ms) z = cond (int_le m z) (suc (cell_of ms z)) 0

-- where a cell above 0 begins
abbrev pub start_of : List ℤ → ℕ → ℤ
start_of marks c = slice_index_or marks (c - 1) (pos 0)

-- the marks before the first of a stretch are at or before the place, and those from its end on after it
pub record Surrounds (marks : List ℤ) (z : ℤ) (first end : ℕ) : Type 0 where
  pub ordered : first ≤ end
  pub within : end ≤ length marks
  pub below : (k : ℕ) → k < first → slice_index_or marks k (pos 0) ≤ℤ z
  pub above : (k : ℕ) → end ≤ k → k < length marks → z <ℤ slice_index_or marks k (pos 0)

-- the sides of the rectangle stand on marks
pub record IsDrawn (xs ys : List ℤ) (r : Rect) : Type 0 where
  pub x0 : Contains xs r.x0
  pub x1 : Contains xs r.x1
  pub y0 : Contains ys r.y0
  pub y1 : Contains ys r.y1

-- the marks of the columns and of the rows have the sides of all rectangles that the mask uses
abbrev pub AreDrawn : List ℤ → List ℤ → Mask → List Rect → Type 0
AreDrawn xs ys mask shapes = All (λ r. uses mask r.layer ≡ true → IsDrawn xs ys r) shapes

-- the cells and rows of the rectangle
abbrev pub block_of : List ℤ → List ℤ → Rect → Block
block_of xs ys r = record {
  layer = r.layer;
  left = cell_of xs r.x0;
  right = cell_of xs r.x1;
  low = cell_of ys r.y0;
  high = cell_of ys r.y1;
}

-- the strip has cells, and keeps off the first and the last cell and row
pub record IsFit (xs ys : List ℤ) (s : Strip) : Type 0 where
  pub left : 0 < s.left
  pub wide : s.left < s.right
  pub right : s.right ≤ length xs
  pub low : 0 < s.low
  pub tall : s.low < s.high
  pub high : s.high ≤ length ys

-- the squares of a strip's cells
abbrev pub tile_of : List ℤ → List ℤ → Strip → Tile
tile_of xs ys s = record {
  x0 = start_of xs s.left;
  y0 = start_of ys s.low;
  x1 = start_of xs s.right;
  y1 = start_of ys s.high;
  colour = s.colour;
}

-- the blocks are those of the rectangles that the mask uses
pub record AreBlocks (xs ys : List ℤ) (mask : Mask) (shapes : List Rect) (blocks : List Block) : Type 0 where
  pub each : All (λ b. (r : Rect) × Contains shapes r × (uses mask r.layer ≡ true) × (b ≡ block_of xs ys r)) blocks
  pub all : (r : Rect) → Contains shapes r → uses mask r.layer ≡ true → Contains blocks (block_of xs ys r)

-- the cell and row of the place of this number
abbrev pub spot_of : List ℤ → List ℤ → ℕ → Point → Spot
spot_of xs ys i p = record { row = cell_of ys p.y; cell = cell_of xs p.x; index = i }

-- the spots are those of the places
pub record AreSpots (xs ys : List ℤ) (places : List Point) (spots : List Spot) : Type 0 where
  pub each : All
      (λ s. (s.index < length places) × ((d : Point) → s ≡ spot_of xs ys s.index (slice_index_or places s.index d)))
      spots
  pub all : (i : ℕ) (d : Point) → i < length places → Contains spots (spot_of xs ys i (slice_index_or places i d))
