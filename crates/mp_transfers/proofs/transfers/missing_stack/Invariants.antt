use Rattle.std.proofs.Common.{◌≡◌}
use Rattle.mp_transfers.specs.Tables.{IsAmong}
use Rattle.mp_transfers.proofs.Earliest.{Upto}
use Rattle.mp_transfers.proofs.transfers.missing_stack.Given as goal

abbrev pub invariant-loop-process : goal.invariant-loop-process
invariant-loop-process l =
    Upto (λ at. ⊥) l.program.processes (λ k q at. (q.depth ≡ 0) × IsAmong l.firsts q.forms at) l.process-index l.found
