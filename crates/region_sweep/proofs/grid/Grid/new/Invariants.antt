-- The sides of the rectangles so far are coordinates.
use Rattle.std.proofs.Common.{take}
use Rattle.region_sweep.specs.Grid.{AreDrawn}
use Rattle.region_sweep.proofs.grid.Grid.new.Given as goal

abbrev pub invariant-loop-shape : goal.invariant-loop-shape
invariant-loop-shape l = AreDrawn l.xs l.ys l.mask (take l.shape-index l.shapes)
