use Rattle.std.proofs.Common.{inl, inr, arith}
use Rattle.mp_rules.proofs.EarliestPlaces.{earliest_same}
use Rattle.written_checker.proofs.Keeping.{no_wrong_sort}
use Rattle.written_checker.proofs.Ruled.{rule_27, rule_28, rule_29, rule_30, rule_31, rule_32, same_earliest}
use Rattle.written_checker.proofs.groups.judge_forms.Goals as goal

pub judge-requires-clause-earliest : goal.judge-requires-clause-earliest
judge-requires-clause-earliest c =
    let same = c.same_rules.ensures c.args.program.now c.args.frame.now c.requires.framed in
    rule_27 c.args.program.now _
    (earliest_same _ _ _ c.set_input.ensures
    (λ at b. elim (same.e27 at b) [
      | inl here ↦ here
      | inr wrong ↦ absurd (no_wrong_sort c.args.program.now 27 (omega arith) c.requires.kept at wrong)
    ])
    (λ at b. same.e27_frame at b))

pub judge-requires-2-clause-earliest : goal.judge-requires-2-clause-earliest
judge-requires-2-clause-earliest c =
    let same = c.same_rules.ensures c.args.program.now c.args.frame.now c.requires.framed in
    rule_28 c.args.program.now _ (same_earliest _ _ _ same.e28 c.in_ok-unknown_label.ensures)

pub judge-requires-3-clause-earliest : goal.judge-requires-3-clause-earliest
judge-requires-3-clause-earliest c =
    let same = c.same_rules.ensures c.args.program.now c.args.frame.now c.requires.framed in
    rule_29 c.args.program.now _ (same_earliest _ _ _ same.e29 c.in_ok-repeated_label.ensures)

pub judge-requires-4-clause-earliest : goal.judge-requires-4-clause-earliest
judge-requires-4-clause-earliest c =
    let same = c.same_rules.ensures c.args.program.now c.args.frame.now c.requires.framed in
    rule_30 c.args.program.now _ (same_earliest _ _ _ same.e30 c.in_ok-transfer_in_always.ensures)

pub judge-requires-5-clause-earliest : goal.judge-requires-5-clause-earliest
judge-requires-5-clause-earliest c =
    let same = c.same_rules.ensures c.args.program.now c.args.frame.now c.requires.framed in
    rule_31 c.args.program.now _ (same_earliest _ _ _ same.e31 c.in_ok-missing_stack.ensures)

pub judge-requires-6-clause-earliest : goal.judge-requires-6-clause-earliest
judge-requires-6-clause-earliest c =
    let same = c.same_rules.ensures c.args.program.now c.args.frame.now c.requires.framed in
    rule_32 c.args.program.now _ (same_earliest _ _ _ same.e32 c.in_ok-second_transfer.ensures)
