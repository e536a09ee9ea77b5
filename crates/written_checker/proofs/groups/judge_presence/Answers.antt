use Rattle.written_checker.proofs.Ruled.{rule_34, rule_35, rule_36, same_earliest}
use Rattle.written_checker.proofs.groups.judge_presence.Goals as goal

pub judge-requires-clause-earliest : goal.judge-requires-clause-earliest
judge-requires-clause-earliest c =
    let same = c.same_rules.ensures c.args.program.now c.args.frame.now c.requires.framed in
    rule_34 c.args.program.now _ (same_earliest _ _ _ same.e34 c.without_reset.ensures)

pub judge-requires-2-clause-earliest : goal.judge-requires-2-clause-earliest
judge-requires-2-clause-earliest c =
    let same = c.same_rules.ensures c.args.program.now c.args.frame.now c.requires.framed in
    rule_35 c.args.program.now _ (same_earliest _ _ _ same.e35 c.missing_supply.ensures)

pub judge-requires-3-clause-earliest : goal.judge-requires-3-clause-earliest
judge-requires-3-clause-earliest c =
    let same = c.same_rules.ensures c.args.program.now c.args.frame.now c.requires.framed in
    rule_36 c.args.program.now _ (same_earliest _ _ _ same.e36 c.empty_process.ensures)
