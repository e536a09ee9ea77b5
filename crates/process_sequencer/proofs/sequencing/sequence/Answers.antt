use Rattle.std.proofs.Common.{subst, sym}
use Rattle.mp_rules.specs.Breaking.{IsUnbroken}
use Rattle.process_sequencer.proofs.sequencing.sequence.Goals as goal

pub sequence_of-requires-clause-unbroken : goal.sequence_of-requires-clause-unbroken
sequence_of-requires-clause-unbroken c = subst IsUnbroken (sym c.program-program.ensures) c.unbroken.ensures
