-- The runs of the windows so far.
use Rattle.std.proofs.Common.{take}
use Rattle.mask_runs.specs.Runs.{AreRuns}
use Rattle.kept_runs.specs.Kept.{colours_of}
use Rattle.row_windows.specs.Windows.{seen}
use Rattle.row_windows.proofs.collect.collect_windows.Given as goal

abbrev pub invariant-loop-window : goal.invariant-loop-window
invariant-loop-window l = AreRuns (seen (take l.window-index l.windows) (colours_of l.kept)) l.runs.items
