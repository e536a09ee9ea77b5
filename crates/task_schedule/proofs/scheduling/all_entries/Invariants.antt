use Rattle.std.proofs.Common.{length}
use Rattle.task_schedule.specs.Turns.{AreEntries}
use Rattle.task_schedule.proofs.scheduling.all_entries.Given as goal

abbrev pub invariant-loop-place : goal.invariant-loop-place
invariant-loop-place l = AreEntries l.rtl l.turns (length l.rtl.exprs) l.place l.entries
