use Rattle.mp_transfers.proofs.Naming.{Names}
use Rattle.mp_transfers.proofs.labels.names_of.Given as goal

abbrev pub invariant-loop-label : goal.invariant-loop-label
invariant-loop-label l = Names l.names l.labels l.label-index
