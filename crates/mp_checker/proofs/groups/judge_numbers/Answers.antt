use Rattle.mp_checker.proofs.Ruled.{rule_23, rule_24, rule_25, rule_26}
use Rattle.mp_checker.proofs.groups.judge_numbers.Goals as goal

pub judge-requires-clause-earliest : goal.judge-requires-clause-earliest
judge-requires-clause-earliest c = rule_23 c.args.program.now _ c.wide_number.ensures

pub judge-requires-2-clause-earliest : goal.judge-requires-2-clause-earliest
judge-requires-2-clause-earliest c = rule_24 c.args.program.now _ c.bit_past_word.ensures

pub judge-requires-3-clause-earliest : goal.judge-requires-3-clause-earliest
judge-requires-3-clause-earliest c = rule_25 c.args.program.now _ c.in_ok-repeated_pin.ensures

pub judge-requires-4-clause-earliest : goal.judge-requires-4-clause-earliest
judge-requires-4-clause-earliest c = rule_26 c.args.program.now _ c.uneven_pins.ensures
