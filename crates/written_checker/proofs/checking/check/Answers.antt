use Rattle.written_checker.proofs.Judging.{judged_again}
use Rattle.written_checker.proofs.checking.check.Goals as goal

pub returns-clause-judged : goal.returns-clause-judged
returns-clause-judged c =
    let kept = c.in_ok-meanings.ensures.ok.1 in
    judged_again c.args.program c.in_ok-expanded.expanded c.check.result kept
    (c.rules_are_kept.ensures c.args.program c.in_ok-expanded.expanded kept c.in_ok-expanded.ensures) c.check.ensures.judged
