use Rattle.process_transfers.specs.Control.{AreReadingsMade}
use Rattle.process_transfers.proofs.roles.readings_of.Given as goal

abbrev pub invariant-loop-cell : goal.invariant-loop-cell
invariant-loop-cell l = AreReadingsMade l.roles l.cell l.fn.exprs l.exprs l.readings
