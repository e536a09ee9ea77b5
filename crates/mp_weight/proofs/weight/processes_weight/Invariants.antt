use Rattle.std.proofs.Common.{◌≡◌, take, min}
use Rattle.std.specs.List.{sum_by}
use Rattle.mp_program.specs.Weight.{process_weight}
use Rattle.mp_weight.proofs.weight.processes_weight.Given as goal

abbrev pub invariant-loop-process : goal.invariant-loop-process
invariant-loop-process l =
    l.weight ≡ min l.cap (sum_by (process_weight l.program) (take l.process-index l.process-items))
