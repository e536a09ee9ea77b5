use Rattle.task_schedule.specs.Turns.{AreExprTurns}
use Rattle.task_schedule.proofs.scheduling.expr_turns.Given as goal

abbrev pub invariant-loop-expr : goal.invariant-loop-expr
invariant-loop-expr l = AreExprTurns l.rtl l.cells l.expr-index l.turns
