-- How many rectangles a fabric draws.
use Rattle.std.specs.Prelude.{ℕ, ◌+◌, ◌*◌, length, sum_by}
use Rattle.tile_cells.specs.Tiles.{cells}
use Rattle.fabric.specs.declared.thing.Mark.{Mark}
use Rattle.fabric.specs.Plan.{Plan, bands}

abbrev pub mark_size : Mark → ℕ
mark_size m = length (cells m.tile)

-- segments, lines and marks
abbrev pub thing_count : Plan → ℕ
thing_count f = length f.segments + length f.lines + length f.marks

-- two trunks, two for each band, one for each segment and line, and the cells of each mark
abbrev pub rectangle_count : Plan → ℕ
rectangle_count f = 2 + 2 * bands f + length f.segments + length f.lines + sum_by mark_size f.marks
