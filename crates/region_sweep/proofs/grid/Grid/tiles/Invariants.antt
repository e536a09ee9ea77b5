-- The tiles of the strips so far.
use Rattle.std.proofs.Common.{◌≡◌, map, take}
use Rattle.region_sweep.specs.Grid.{tile_of}
use Rattle.region_sweep.proofs.grid.Grid.tiles.Given as goal

abbrev pub invariant-loop-strip : goal.invariant-loop-strip
invariant-loop-strip l =
    l.tiles ≡ map (tile_of l.self.columns.marks.items l.self.rows.marks.items) (take l.strip-index l.strips)
