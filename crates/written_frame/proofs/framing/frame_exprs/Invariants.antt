use Rattle.std.proofs.Common.{◌≡◌, map, take}
use Rattle.written_frame.specs.Frame.{frame_expr}
use Rattle.written_frame.proofs.framing.frame_exprs.Given as goal

abbrev pub invariant-loop-expr : goal.invariant-loop-expr
invariant-loop-expr l = l.list ≡ map frame_expr (take l.expr-index l.expr-items)
