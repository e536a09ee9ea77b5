-- How many rectangles a fabric draws.
use Rattle.std.proofs.Common.{◌+◌, ◌*◌, ◌≤◌, arith, length, get_or}
use Rattle.std.proofs.lemmas.List.Sums.{sum_by-le}
use Rattle.tile_cells.specs.declared.tile.Tile.{Tile}
use Rattle.tile_cells.specs.declared.tile.Tile.TheVariants.{TapL, TapR, Tran, PullUp, Under}
use Rattle.tile_cells.specs.Tiles.{cells}
use Rattle.fabric.specs.Plan.{Plan}
use Rattle.fabric.specs.Counted.{mark_size, rectangle_count}

ten_at_most : (t : Tile) → length (cells t) ≤ 10
ten_at_most TapL = omega arith
ten_at_most TapR = omega arith
ten_at_most Tran = omega arith
ten_at_most PullUp = omega arith
ten_at_most Under = omega arith

pub few_rectangles : (f : Plan)
    → rectangle_count f ≤ 10 * (length f.segments + length f.lines + length f.marks) + 2 * length f.rows + 2
few_rectangles f =
    let in_marks = sum_by-le mark_size 10 f.marks (λ k d h. ten_at_most (get_or f.marks k d).tile) in
    omega arith
