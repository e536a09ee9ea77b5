use Rattle.std.proofs.Common.{sym, subst}
use Rattle.mp_rules.specs.Breaking.{IsEarliest}
use Rattle.written_rules.specs.Rules.{E45}
use Rattle.written_counts.proofs.Totalled.{earliest_many}
use Rattle.written_counts.proofs.counts.many_exprs.Goals as goal

pub returns : goal.returns
returns c =
    subst (IsEarliest (E45 c.args.program.now)) (sym c.then_some.ensures)
    (earliest_many c.args.program.now c.in_ok-total.field-0 c.in_ok-total.ensures)
