use Rattle.std.proofs.Common.{◌≡◌, take}
use Rattle.std.specs.List.{sum_by}
use Rattle.mp_program.specs.declared.program.Expr.{Expr}
use Rattle.mp_program.specs.Weight.{expr_weight}
use Rattle.written_counts.proofs.frames.exprs_weight.Given as goal

abbrev pub invariant-loop-e : goal.invariant-loop-e
invariant-loop-e l = l.weight ≡ sum_by (λ (e : Expr). expr_weight l.program e.kind) (take l.e l.program.exprs)
