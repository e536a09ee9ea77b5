use Rattle.task_schedule.specs.Turns.{AreCellTurns}
use Rattle.task_schedule.proofs.scheduling.cell_turns.Given as goal

abbrev pub invariant-loop-place : goal.invariant-loop-place
invariant-loop-place l = AreCellTurns l.rtl l.place l.turns
