-- The windows of the changed runs so far.
use Rattle.kept_runs.specs.Kept.{colours_of, width_of}
use Rattle.row_windows.proofs.Finding.{IsFinding}
use Rattle.row_windows.proofs.find.find_windows.Given as goal

abbrev pub invariant-loop-next : goal.invariant-loop-next
invariant-loop-next l = IsFinding (colours_of l.kept) (width_of l.kept) l.runs l.next l.windows.items l.current
