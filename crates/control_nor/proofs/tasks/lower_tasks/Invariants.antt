use Rattle.control_nor.specs.Done.{AreDone}
use Rattle.control_nor.proofs.tasks.lower_tasks.Given as goal

abbrev pub invariant-loop-task : goal.invariant-loop-task
invariant-loop-task l =
    AreDone l.rtl l.tasks l.task-index l.initial.net l.net l.initial.bits l.bits l.ends
