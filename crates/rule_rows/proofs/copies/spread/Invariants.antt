-- The rectangles so far are drawn.
use Rattle.std.proofs.Common.{take}
use Rattle.lam_geom.specs.Squares.{covered}
use Rattle.rule_rows.specs.Copies.{AreSpread}
use Rattle.rule_rows.proofs.copies.spread.Given as goal

abbrev pub invariant-loop-shape : goal.invariant-loop-shape
invariant-loop-shape l =
    AreSpread (covered (take l.shape-index l.fn.shapes) l.fn.from) l.fn.to l.fn.reach l.fn.drawing l.drawing
