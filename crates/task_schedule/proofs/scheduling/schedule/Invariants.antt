use Rattle.std.proofs.Common.{◌≡◌, map, take}
use Rattle.task_schedule.specs.declared.scheduling.Entry.{Entry}
use Rattle.task_schedule.proofs.scheduling.schedule.Given as goal

abbrev pub invariant-loop-entry : goal.invariant-loop-entry
invariant-loop-entry l = l.tasks ≡ map (λ (e : Entry). e.task) (take l.entry-index l.entry-items)
