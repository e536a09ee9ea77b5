use Rattle.std.proofs.Common.{length}
use Rattle.bit_gates.proofs.Groups.{two_below}
use Rattle.bit_gates.proofs.cells.add_term.Goals as goal

pub gate-requires-clause-inputs : goal.gate-requires-clause-inputs
gate-requires-clause-inputs c =
    two_below (length c.args.net.now) c.args.value.negation c.args.guard.negation c.requires.value.negation_below
    c.requires.guard.negation_below
