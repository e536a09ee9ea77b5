use Rattle.std.proofs.Common.{sym, subst}
use Rattle.mp_order.specs.Evaluation.{IsEvaluation}
use Rattle.mp_rules.specs.Breaking.{IsEarliest}
use Rattle.mp_rules.specs.Rules.{E33}
use Rattle.written_checker.proofs.groups.closed.Goals.{in-Order, in-Closed}
use Rattle.written_checker.proofs.groups.closed.Goals as goal

pub returns : goal.returns
returns c = λ p is. elim c.match-evaluation.branch [
  | in-Order w ↦
      subst (IsEarliest (E33 p)) (sym w.result-is) (subst (IsEvaluation p) w.in-Order.is is).1
  | in-Closed w ↦
      subst (IsEarliest (E33 p)) (sym w.result-is) (subst (IsEvaluation p) w.in-Closed.is is)
]
