-- The extent of a fabric, and its bounds by a cost.
use Rattle.std.specs.Prelude.{◌≡◌, ◌≢◌, ◌+◌, ◌*◌, ◌≤◌, ℕ, suc, length, Contains}
use Rattle.lam_geom.specs.Extent.{IsAtMost}
use Rattle.lam_geom.specs.Squares.{covered}
use Rattle.tile_cells.specs.declared.tile.Tile.TheVariants.{Under}
use Rattle.fabric.specs.declared.thing.Mark.{Mark}
use Rattle.fabric.specs.Plan.{Plan, IsFabric, bands, rows_of}
use Rattle.fabric.specs.Shape.{base, last_column, shape}

-- no crossing under the ground trunk
abbrev pub HasNoUnder : Plan → Type 0
HasNoUnder f = (m : Mark) → Contains f.marks m → m.tile ≢ Under

-- its extent is at most from the one trunk to the other, and as high as its bands
abbrev pub FabricsAreBetween : Type 0
FabricsAreBetween =
    (f : Plan) → IsFabric f → HasNoUnder f
    → IsAtMost (covered (shape f)) (20 * last_column f + 6) (base f (bands f))

-- a band for a control and one for each bit of a word; columns and rows by a cost, whatever the length of words
pub record IsSmall (cost width : ℕ) (f : Plan) : Type 0 where
  pub columns : f.columns ≤ cost + 8
  pub count : length f.rows ≡ suc width
  pub control : rows_of f 0 ≤ 2 * cost + 4
  pub slices : (b : ℕ) → suc b ≤ width → rows_of f (suc b) ≤ cost + 4

-- the width of its extent doesn't grow with the length of words, and its height by one band a bit
abbrev pub SmallFabrics : Type 0
SmallFabrics =
    (cost width : ℕ) (f : Plan) → IsFabric f → HasNoUnder f → IsSmall cost width f
    → IsAtMost (covered (shape f)) (20 * (cost + 8)) (width * (12 * (cost + 8) + 36) + 24 * (cost + 8) + 96)
