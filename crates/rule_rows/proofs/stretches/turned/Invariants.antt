-- The rectangles so far are turned.
use Rattle.std.proofs.Common.{take}
use Rattle.rule_rows.specs.Gates.{IsTurned}
use Rattle.rule_rows.proofs.stretches.turned.Given as goal

abbrev pub invariant-loop-shape : goal.invariant-loop-shape
invariant-loop-shape l = IsTurned (take l.shape-index l.shapes) l.rects
