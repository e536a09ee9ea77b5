use Rattle.task_schedule.specs.Turns.{AreEntries}
use Rattle.task_schedule.proofs.scheduling.expr_entries.Given as goal

abbrev pub invariant-loop-index : goal.invariant-loop-index
invariant-loop-index l = AreEntries l.rtl l.turns l.index 0 l.entries
