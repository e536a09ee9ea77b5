use Rattle.written_checker.proofs.Ruled.{rule_23, rule_24, rule_25, rule_26, same_earliest}
use Rattle.written_checker.proofs.groups.judge_numbers.Goals as goal

pub judge-requires-clause-earliest : goal.judge-requires-clause-earliest
judge-requires-clause-earliest c =
    let same = c.same_rules.ensures c.args.program.now c.args.frame.now c.requires.framed in
    rule_23 c.args.program.now _ (same_earliest _ _ _ same.e23 c.wide_number.ensures)

pub judge-requires-2-clause-earliest : goal.judge-requires-2-clause-earliest
judge-requires-2-clause-earliest c =
    let same = c.same_rules.ensures c.args.program.now c.args.frame.now c.requires.framed in
    rule_24 c.args.program.now _ (same_earliest _ _ _ same.e24 c.bit_past_word.ensures)

pub judge-requires-3-clause-earliest : goal.judge-requires-3-clause-earliest
judge-requires-3-clause-earliest c =
    let same = c.same_rules.ensures c.args.program.now c.args.frame.now c.requires.framed in
    rule_25 c.args.program.now _ (same_earliest _ _ _ same.e25 c.in_ok-repeated_pin.ensures)

pub judge-requires-4-clause-earliest : goal.judge-requires-4-clause-earliest
judge-requires-4-clause-earliest c =
    let same = c.same_rules.ensures c.args.program.now c.args.frame.now c.requires.framed in
    rule_26 c.args.program.now _ (same_earliest _ _ _ same.e26 c.uneven_pins.ensures)
