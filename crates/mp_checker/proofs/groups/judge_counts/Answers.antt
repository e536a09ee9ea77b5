use Rattle.mp_checker.proofs.Keeping.{keeps_gap}
use Rattle.mp_checker.proofs.Ruled.{rule_40, rule_41, rule_42, rule_43}
use Rattle.mp_checker.proofs.groups.judge_counts.Goals as goal

pub judge-requires-clause-earliest : goal.judge-requires-clause-earliest
judge-requires-clause-earliest c = rule_40 c.args.program.now _ c.in_ok-crowded_name.ensures

pub judge-requires-2-clause-earliest : goal.judge-requires-2-clause-earliest
judge-requires-2-clause-earliest c = rule_41 c.args.program.now _ c.far_process.ensures

pub judge-requires-3-clause-earliest : goal.judge-requires-3-clause-earliest
judge-requires-3-clause-earliest c = rule_42 c.args.program.now _ c.long_process.ensures

pub judge-requires-4-clause-earliest : goal.judge-requires-4-clause-earliest
judge-requires-4-clause-earliest c = rule_43 c.args.program.now _ c.deep_process.ensures

pub judge-requires-clause-below : goal.judge-requires-clause-below
judge-requires-clause-below c = keeps_gap c.args.program.now c.requires
