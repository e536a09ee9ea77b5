use Rattle.mp_checker.proofs.Keeping.{keeps_first}
use Rattle.mp_checker.proofs.Ruled.{rule_20, rule_21, rule_22}
use Rattle.mp_checker.proofs.groups.judge_names.Goals as goal

pub judge-requires-clause-earliest : goal.judge-requires-clause-earliest
judge-requires-clause-earliest c = rule_20 c.args.program.now _ c.repeated_name.ensures

pub judge-requires-2-clause-earliest : goal.judge-requires-2-clause-earliest
judge-requires-2-clause-earliest c = rule_21 c.args.program.now _ c.undefined_name.ensures

pub judge-requires-3-clause-earliest : goal.judge-requires-3-clause-earliest
judge-requires-3-clause-earliest c = rule_22 c.args.program.now _ c.wrong_sort.ensures

pub judge-requires-clause-below : goal.judge-requires-clause-below
judge-requires-clause-below c = keeps_first c.args.program.now
