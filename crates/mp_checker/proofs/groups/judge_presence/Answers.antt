use Rattle.mp_checker.proofs.Ruled.{rule_34, rule_35, rule_36}
use Rattle.mp_checker.proofs.groups.judge_presence.Goals as goal

pub judge-requires-clause-earliest : goal.judge-requires-clause-earliest
judge-requires-clause-earliest c = rule_34 c.args.program.now _ c.without_reset.ensures

pub judge-requires-2-clause-earliest : goal.judge-requires-2-clause-earliest
judge-requires-2-clause-earliest c = rule_35 c.args.program.now _ c.missing_supply.ensures

pub judge-requires-3-clause-earliest : goal.judge-requires-3-clause-earliest
judge-requires-3-clause-earliest c = rule_36 c.args.program.now _ c.empty_process.ensures
