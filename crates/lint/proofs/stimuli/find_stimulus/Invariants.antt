use Rattle.std.proofs.Common.{◌≤◌, ◌-◌, length}
use Rattle.lint.proofs.stimuli.find_stimulus.Given as goal

abbrev pub invariant-lines : goal.invariant-lines
invariant-lines l = l.start ≤ length l.text

abbrev pub decreases-lines : goal.decreases-lines
decreases-lines l = length l.text - l.start
