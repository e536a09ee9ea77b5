use Rattle.mp_checker.proofs.Ruled.{rule_27, rule_28, rule_29, rule_30, rule_31, rule_32}
use Rattle.mp_checker.proofs.groups.judge_forms.Goals as goal

pub judge-requires-clause-earliest : goal.judge-requires-clause-earliest
judge-requires-clause-earliest c = rule_27 c.args.program.now _ c.set_input.ensures

pub judge-requires-2-clause-earliest : goal.judge-requires-2-clause-earliest
judge-requires-2-clause-earliest c = rule_28 c.args.program.now _ c.in_ok-unknown_label.ensures

pub judge-requires-3-clause-earliest : goal.judge-requires-3-clause-earliest
judge-requires-3-clause-earliest c = rule_29 c.args.program.now _ c.in_ok-repeated_label.ensures

pub judge-requires-4-clause-earliest : goal.judge-requires-4-clause-earliest
judge-requires-4-clause-earliest c = rule_30 c.args.program.now _ c.in_ok-transfer_in_always.ensures

pub judge-requires-5-clause-earliest : goal.judge-requires-5-clause-earliest
judge-requires-5-clause-earliest c = rule_31 c.args.program.now _ c.in_ok-missing_stack.ensures

pub judge-requires-6-clause-earliest : goal.judge-requires-6-clause-earliest
judge-requires-6-clause-earliest c = rule_32 c.args.program.now _ c.in_ok-second_transfer.ensures
