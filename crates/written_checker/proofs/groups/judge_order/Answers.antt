use Rattle.std.proofs.Common.{arith}
use Rattle.written_checker.proofs.Keeping.{no_repeated_name}
use Rattle.written_checker.proofs.Ruled.{rule_33, same_earliest}
use Rattle.written_checker.proofs.groups.judge_order.Goals as goal

pub judge-requires-clause-earliest : goal.judge-requires-clause-earliest
judge-requires-clause-earliest c =
    let same = c.same_rules.ensures c.args.program.now c.args.frame.now c.requires.framed in
    rule_33 c.args.program.now _ (same_earliest _ _ _ same.e33 c.in_ok-closed_chain.ensures)

pub closed_chain-requires-clause-kept : goal.closed_chain-requires-clause-kept
closed_chain-requires-clause-kept c =
    let same = c.same_rules.ensures c.args.program.now c.args.frame.now c.requires.framed in
    λ at b. no_repeated_name c.args.program.now 33 (omega arith) c.requires.kept at ((same.e20 at).0 b)
