use Rattle.std.proofs.Common.{Some, None, refl, subst}
use Rattle.mp_order.specs.Evaluation.{IsEvaluation}
use Rattle.mp_checker.proofs.Keeping.{keeps_more, refuses_first}
use Rattle.mp_checker.proofs.Ruled.{rule_33}
use Rattle.mp_fitting.proofs.Driving.{driven_named}
use Rattle.mp_checker.proofs.groups.judge_order.Goals as goal

pub returns-in-Order-clause-ok : goal.returns-in-Order-clause-ok
returns-in-Order-clause-ok c =
    let found = subst (IsEvaluation c.args.program.now) c.in-Order.is c.in_ok-order.ensures in
    (found.0, keeps_more c.args.program.now 33 None c.requires.kept refl (rule_33 c.args.program.now None found.1))

pub returns-in-Closed-clause-err : goal.returns-in-Closed-clause-err
returns-in-Closed-clause-err c =
    refuses_first c.args.program.now 33 c.in-Closed.at c.refusal.result c.refusal.ensures c.requires.kept
    (rule_33 c.args.program.now (Some c.in-Closed.at)
    (subst (IsEvaluation c.args.program.now) c.in-Closed.is c.in_ok-order.ensures))

pub evaluation_order-requires : goal.evaluation_order-requires
evaluation_order-requires c =
    record { meant = c.requires.meant; own = λ d x (at, driven). c.requires.own d x at (driven_named x.what driven) }
