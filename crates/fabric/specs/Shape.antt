-- What a fabric draws, in half-units. A lambda is 500 of them.
use Rattle.std.specs.Prelude.{ℕ, zero, suc, ◌+◌, ◌*◌, ◌-◌, cond, eqb, List, [], ◌∷◌, ◌++◌, map, flat_map, pos}
use Rattle.std.specs.List.{range_with_len}
use Rattle.lam_geom.specs.declared.layer.Layer.{Layer}
use Rattle.lam_geom.specs.declared.layer.Layer.TheVariants.{ND, NM}
use Rattle.lam_geom.specs.declared.rect.Rect.{Rect}
use Rattle.tile_cells.specs.declared.tile.Tile.{Tile}
use Rattle.tile_cells.specs.declared.tile.Tile.TheVariants.{TapL, TapR, Tran, PullUp, Under}
use Rattle.tile_cells.specs.Tiles.{Cell, cells}
use Rattle.fabric.specs.declared.thing.Side.{Side}
use Rattle.fabric.specs.declared.thing.Side.TheVariants.{L, R}
use Rattle.fabric.specs.declared.thing.Segment.{Segment}
use Rattle.fabric.specs.declared.thing.Line.{Line}
use Rattle.fabric.specs.declared.thing.Mark.{Mark}
use Rattle.fabric.specs.Plan.{Plan, bands, rows_of}

-- the height of a band's lowest row, in lambda: a row is 12 high, and a row of pull-ups takes 36
abbrev pub base : Plan → ℕ → ℕ
base f zero = 0
base f (suc b) = base f b + (12 * rows_of f b + 36)

-- the column of the power trunk
abbrev pub last_column : Plan → ℕ
last_column f = f.columns - 1

-- a rectangle whose corners are given in lambda
abbrev pub lambdas : Layer → ℕ → ℕ → ℕ → ℕ → Rect
lambdas l x0 y0 x1 y1 = record {
  layer = l;
  x0 = pos (500 * x0);
  y0 = pos (500 * y0);
  x1 = pos (500 * x1);
  y1 = pos (500 * y1);
}

abbrev pub ground_trunk : Plan → Rect
ground_trunk f = lambdas NM 7 0 13 (base f (bands f))

abbrev pub power_trunk : Plan → Rect
power_trunk f = lambdas NM (20 * last_column f + 7) 0 (20 * last_column f + 13) (base f (bands f))

abbrev pub ground_row : Plan → ℕ → Rect
ground_row f b = lambdas NM 7 (base f b + 6) (20 * last_column f) (base f b + 10)

abbrev pub power_rail : Plan → ℕ → Rect
power_rail f b = lambdas NM 20 (base f b + 12 * rows_of f b + 27) (20 * last_column f + 13)
    (base f b + 12 * rows_of f b + 31)

abbrev pub band_rects : Plan → ℕ → List Rect
band_rects f b = ground_row f b ∷ power_rail f b ∷ []

abbrev pub segment_rect : Plan → Segment → Rect
segment_rect f s = lambdas NM (20 * s.first) (base f s.band + 12 * s.row + 6) (20 * s.last + 20)
    (base f s.band + 12 * s.row + 10)

-- from the left edge of a column to that of a line
abbrev pub offset : Side → ℕ
offset L = 2
offset R = 14

abbrev pub line_rect : Plan → Line → Rect
line_rect f l =
    lambdas ND (20 * l.column + offset l.side) (base f l.first_band) (20 * l.column + offset l.side + 4)
    (base f l.last_band + 12 * rows_of f l.last_band)

-- the crossing under the ground trunk lies higher in a pull-up row, at the power rail
abbrev pub lift : Plan → Tile → ℕ → ℕ → ℕ
lift f TapL b r = 0
lift f TapR b r = 0
lift f Tran b r = 0
lift f PullUp b r = 0
lift f Under b r = cond (eqb r (rows_of f b)) 21 0

abbrev pub placed : ℕ → ℕ → Cell → Rect
placed x y c = lambdas c.layer (x + c.x0) (y + c.y0) (x + c.x1) (y + c.y1)

abbrev pub tile_rects : Plan → Tile → ℕ → ℕ → ℕ → List Rect
tile_rects f t b r c = map (placed (20 * c) (base f b + 12 * r + lift f t b r)) (cells t)

abbrev pub mark_rects : Plan → Mark → List Rect
mark_rects f m = tile_rects f m.tile m.band m.row m.column

abbrev pub shape : Plan → List Rect
shape f =
    ground_trunk f ∷ power_trunk f ∷ (
    flat_map (band_rects f) (range_with_len 0 (bands f))
    ++ (map (segment_rect f) f.segments ++ (map (line_rect f) f.lines ++ flat_map (mark_rects f) f.marks)))
