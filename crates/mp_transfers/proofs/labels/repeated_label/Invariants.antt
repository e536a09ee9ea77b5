use Rattle.mp_transfers.specs.Labels.{IsRepeated}
use Rattle.mp_transfers.proofs.Earliest.{Upto}
use Rattle.mp_transfers.proofs.labels.repeated_label.Given as goal

abbrev pub invariant-loop-process : goal.invariant-loop-process
invariant-loop-process l = Upto (λ at. ⊥) l.program.processes (λ k q at. IsRepeated q.labels at) l.process-index l.found
