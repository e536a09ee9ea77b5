use Rattle.std.proofs.Common.{arith}
use Rattle.written_checker.proofs.Keeping.{keeps_first, no_repeated_name}
use Rattle.written_checker.proofs.Ruled.{rule_20, rule_21, rule_22, same_earliest}
use Rattle.written_checker.proofs.groups.judge_names.Goals as goal

pub judge-requires-clause-below : goal.judge-requires-clause-below
judge-requires-clause-below c = keeps_first c.args.program.now

pub judge-requires-clause-earliest : goal.judge-requires-clause-earliest
judge-requires-clause-earliest c =
    let same = c.same_rules.ensures c.args.program.now c.args.frame.now c.requires.framed in
    rule_20 c.args.program.now _ (same_earliest _ _ _ same.e20 c.repeated_name.ensures)

pub undefined_name-requires-clause-names : goal.undefined_name-requires-clause-names
undefined_name-requires-clause-names c = (c.args.frame.now, c.requires.framed, c.requires.names)

pub judge-requires-2-clause-earliest : goal.judge-requires-2-clause-earliest
judge-requires-2-clause-earliest c = rule_21 c.args.program.now _ c.undefined_name.ensures

pub wrong_sort-requires-clause-names : goal.wrong_sort-requires-clause-names
wrong_sort-requires-clause-names c = (c.args.frame.now, c.requires.framed, c.requires.names)

pub wrong_sort-requires-clause-apart : goal.wrong_sort-requires-clause-apart
wrong_sort-requires-clause-apart c =
    λ at b. no_repeated_name c.args.program.now 22 (omega arith) c.in_ok-judge-2.ensures.ok at b

pub judge-requires-3-clause-earliest : goal.judge-requires-3-clause-earliest
judge-requires-3-clause-earliest c = rule_22 c.args.program.now _ c.in_ok-wrong_sort.ensures
