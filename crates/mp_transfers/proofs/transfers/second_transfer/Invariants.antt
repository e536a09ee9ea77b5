use Rattle.mp_transfers.specs.Tables.{IsAmong}
use Rattle.mp_transfers.proofs.Earliest.{Upto}
use Rattle.mp_transfers.proofs.transfers.second_transfer.Given as goal

abbrev pub invariant-loop-process : goal.invariant-loop-process
invariant-loop-process l =
    Upto (λ at. ⊥) l.program.processes (λ k q at. IsAmong l.seconds q.forms at) l.process-index l.found
