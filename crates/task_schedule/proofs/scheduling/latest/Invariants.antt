use Rattle.std.proofs.Common.{take}
use Rattle.task_schedule.specs.Turns.{IsLatest}
use Rattle.task_schedule.proofs.scheduling.latest.Given as goal

abbrev pub invariant-loop-arg : goal.invariant-loop-arg
invariant-loop-arg l = IsLatest l.turns (take l.arg-index l.args) l.last
