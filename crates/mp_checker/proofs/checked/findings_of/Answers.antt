use Rattle.std.proofs.Common.{arith}
use Rattle.mp_checker.proofs.Keeping.{no_repeated_name}
use Rattle.mp_checker.proofs.checked.findings_of.Goals as goal

pub own_names-requires : goal.own_names-requires
own_names-requires c = no_repeated_name c.args.program.now 33 (omega arith) c.in_ok-meanings.ensures.ok.1

pub pads_of-requires-clause-kept : goal.pads_of-requires-clause-kept
pads_of-requires-clause-kept c = no_repeated_name c.args.program.now 33 (omega arith) c.in_ok-meanings.ensures.ok.1
