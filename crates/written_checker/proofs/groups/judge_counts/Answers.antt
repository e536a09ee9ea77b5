use Rattle.written_checker.proofs.Ruled.{rule_40, rule_41, rule_42, rule_43, same_earliest}
use Rattle.written_checker.proofs.groups.judge_counts.Goals as goal

pub judge-requires-clause-earliest : goal.judge-requires-clause-earliest
judge-requires-clause-earliest c =
    let same = c.same_rules.ensures c.args.program.now c.args.frame.now c.requires.framed in
    rule_40 c.args.program.now _ (same_earliest _ _ _ same.e40 c.in_ok-crowded_name.ensures)

pub judge-requires-2-clause-earliest : goal.judge-requires-2-clause-earliest
judge-requires-2-clause-earliest c =
    let same = c.same_rules.ensures c.args.program.now c.args.frame.now c.requires.framed in
    rule_41 c.args.program.now _ (same_earliest _ _ _ same.e41 c.far_process.ensures)

pub judge-requires-3-clause-earliest : goal.judge-requires-3-clause-earliest
judge-requires-3-clause-earliest c =
    let same = c.same_rules.ensures c.args.program.now c.args.frame.now c.requires.framed in
    rule_42 c.args.program.now _ (same_earliest _ _ _ same.e42 c.long_process.ensures)

pub judge-requires-4-clause-earliest : goal.judge-requires-4-clause-earliest
judge-requires-4-clause-earliest c =
    let same = c.same_rules.ensures c.args.program.now c.args.frame.now c.requires.framed in
    rule_43 c.args.program.now _ (same_earliest _ _ _ same.e43 c.deep_process.ensures)
