use Rattle.std.proofs.Common.{◌≤◌, length}
use Rattle.mp_order.specs.Demands.{AreTops}
use Rattle.mp_order.proofs.demands.tops.Given as goal

abbrev pub invariant-loop-expr : goal.invariant-loop-expr
invariant-loop-expr l = AreTops l.program l.weights l.expr l.tops × (l.expr ≤ length l.exprs)

abbrev pub decreases-loop-expr : goal.decreases-loop-expr
decreases-loop-expr l = l.expr
