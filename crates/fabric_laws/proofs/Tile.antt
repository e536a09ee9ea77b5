-- What can stand at a tile, and what it draws there.
use Rattle.std.proofs.Common.{ℕ, ◌≡◌, ◌+◌, ◌*◌, ◌<◌, ◌≤◌, ◌⊎◌, List, [], ◌∷◌, map, Contains}
use Rattle.std.specs.Prelude.{ℤ, pos}
use Rattle.mp_base.proofs.Members.{Member}
use Rattle.lam_geom.specs.declared.layer.Layer.{Layer}
use Rattle.lam_geom.specs.declared.layer.Layer.TheVariants.{ND, NM}
use Rattle.tile_cells.specs.declared.tile.Tile.{Tile}
use Rattle.tile_cells.specs.declared.tile.Tile.TheVariants.{Under}
use Rattle.tile_cells.specs.Tiles.{Cell, cell, cells}
use Rattle.fabric.specs.declared.thing.Side.{Side}
use Rattle.fabric.specs.declared.thing.Line.{Line}
use Rattle.fabric.specs.declared.thing.Mark.{Mark}
use Rattle.fabric.specs.Plan.{Plan, bands, rows_of, SegmentAt, Passes}
use Rattle.fabric.specs.Shape.{base, last_column, offset}

pub data Thing : Type 0 where
  trunk : Thing
  power : Thing
  ground_start : Thing
  ground_on : Thing
  rail : Thing
  rail_end : Thing
  seg : Thing
  lin : Side → Thing
  mark : Tile → Thing
  under_rail : Thing

abbrev pub raised : Cell → Cell
raised c = record { layer = c.layer; x0 = c.x0; y0 = 21 + c.y0; x1 = c.x1; y1 = 21 + c.y1 }

-- a trunk and a line go over the whole height of a tile, of whichever row
abbrev pub cells_of : Thing → List Cell
cells_of trunk = cell NM 7 0 13 36 ∷ []
cells_of power = cell NM 7 0 13 36 ∷ []
cells_of ground_start = cell NM 7 6 20 10 ∷ []
cells_of ground_on = cell NM 0 6 20 10 ∷ []
cells_of rail = cell NM 0 27 20 31 ∷ []
cells_of rail_end = cell NM 0 27 13 31 ∷ []
cells_of seg = cell NM 0 6 20 10 ∷ []
cells_of (lin s) = cell ND (offset s) 0 (offset s + 4) 36 ∷ []
cells_of (mark t) = cells t
cells_of under_rail = map raised (cells Under)

pub record MarkAt (f : Plan) (t : Tile) (b r c : ℕ) : Type 0 where
  pub mark_ : Mark
  pub among : Contains f.marks mark_
  pub tile : mark_.tile ≡ t
  pub band : mark_.band ≡ b
  pub row : mark_.row ≡ r
  pub column : mark_.column ≡ c

-- the thing stands at that tile
abbrev pub Here : Plan → ℕ → ℕ → ℕ → Thing → Type 0
Here f b r c trunk = c ≡ 0
Here f b r c power = c ≡ last_column f
Here f b r c ground_start = (c ≡ 0) × (r ≡ 0)
Here f b r c ground_on = (1 ≤ c) × (c < last_column f) × (r ≡ 0)
Here f b r c rail = (1 ≤ c) × (c < last_column f) × (r ≡ rows_of f b)
Here f b r c rail_end = (c ≡ last_column f) × (r ≡ rows_of f b)
Here f b r c seg = SegmentAt f b r c
Here f b r c (lin s) = (l : Line) × Contains f.lines l × Passes l s b c × ((r < rows_of f b) ⊎ (b < l.last_band))
Here f b r c (mark t) = MarkAt f t b r c × (t ≡ Under → r < rows_of f b)
Here f b r c under_rail = MarkAt f Under b r c × (r ≡ rows_of f b)

-- the place (u, v) of the tile, in half-units
pub record Inside (c : Cell) (u v : ℕ) : Type 0 where
  pub left : 500 * c.x0 ≤ u
  pub right : u < 500 * c.x1
  pub bottom : 500 * c.y0 ≤ v
  pub top : v < 500 * c.y1

-- the row of a band at which a height lies, and the height above its bottom
abbrev pub Slot : Plan → ℕ → ℕ → ℕ → Type 0
Slot f b r v = (r < rows_of f b) × (v < 6000) ⊎ (r ≡ rows_of f b) × (v < 18000)

-- the square at x and y lies at (u, v) of that tile
pub record At (f : Plan) (b r c u v : ℕ) (x y : ℤ) : Type 0 where
  pub band : b < bands f
  pub slot : Slot f b r v
  pub at_x : x ≡ pos (10000 * c + u)
  pub at_y : y ≡ pos (500 * base f b + 6000 * r + v)
  pub in_x : u < 10000

-- what covers a square, at its tile
pub record Local (f : Plan) (l : Layer) (x y : ℤ) : Type 0 where
  pub b : ℕ
  pub r : ℕ
  pub c : ℕ
  pub u : ℕ
  pub v : ℕ
  pub at : At f b r c u v x y
  pub thing : Thing
  pub here : Here f b r c thing
  pub cell : Cell
  pub among : Member (cells_of thing) cell
  pub layer : cell.layer ≡ l
  pub inside : Inside cell u v
