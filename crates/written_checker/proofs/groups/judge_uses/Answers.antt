use Rattle.std.proofs.Common.{arith}
use Rattle.written_checker.proofs.Keeping.{no_repeated_name}
use Rattle.written_checker.proofs.Ruled.{rule_37, rule_38, rule_39}
use Rattle.written_checker.proofs.groups.judge_uses.Goals as goal

pub uneven_use-requires-clause-apart : goal.uneven_use-requires-clause-apart
uneven_use-requires-clause-apart c =
    λ at b. no_repeated_name c.args.program.now 37 (omega arith) c.requires.kept at b

pub judge-requires-clause-earliest : goal.judge-requires-clause-earliest
judge-requires-clause-earliest c = rule_37 c.args.program.now _ c.uneven_use.ensures

pub taken_name-requires : goal.taken_name-requires
taken_name-requires c = (c.args.frame.now, c.requires.framed, c.requires.names)

pub judge-requires-2-clause-earliest : goal.judge-requires-2-clause-earliest
judge-requires-2-clause-earliest c = rule_38 c.args.program.now _ c.in_ok-taken_name.ensures

pub outside_name-requires-clause-names : goal.outside_name-requires-clause-names
outside_name-requires-clause-names c = (c.args.frame.now, c.requires.framed, c.requires.names)

pub outside_name-requires-clause-apart : goal.outside_name-requires-clause-apart
outside_name-requires-clause-apart c =
    λ at b. no_repeated_name c.args.program.now 37 (omega arith) c.requires.kept at b

pub judge-requires-3-clause-earliest : goal.judge-requires-3-clause-earliest
judge-requires-3-clause-earliest c = rule_39 c.args.program.now _ c.outside_name.ensures
