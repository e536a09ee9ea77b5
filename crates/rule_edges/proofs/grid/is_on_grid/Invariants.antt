-- The rectangles so far are on the grid.
use Rattle.std.proofs.Common.{take}
use Rattle.std.specs.Prelude.{All}
use Rattle.rule_edges.specs.Edges.{FitsIn}
use Rattle.rule_edges.proofs.grid.is_on_grid.Given as goal

abbrev pub invariant-loop-shape : goal.invariant-loop-shape
invariant-loop-shape l = All (FitsIn l.layer) (take l.shape-index l.shapes)
