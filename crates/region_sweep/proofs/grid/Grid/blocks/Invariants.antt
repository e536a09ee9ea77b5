-- The blocks of the rectangles so far.
use Rattle.std.proofs.Common.{take}
use Rattle.region_sweep.specs.Grid.{AreBlocks}
use Rattle.region_sweep.proofs.grid.Grid.blocks.Given as goal

abbrev pub invariant-loop-shape : goal.invariant-loop-shape
invariant-loop-shape l =
    AreBlocks l.self.columns.marks.items l.self.rows.marks.items l.mask (take l.shape-index l.shapes) l.blocks
