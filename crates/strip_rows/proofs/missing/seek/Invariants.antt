use Rattle.std.proofs.Common.{length, ◌-◌}
use Rattle.strip_rows.proofs.missing.seek.Given as goal
use Rattle.strip_rows.proofs.Merging.{IsSought}

abbrev pub invariant-loop-place : goal.invariant-loop-place
invariant-loop-place l = IsSought l.runs l.place l.left

abbrev pub decreases-loop-place : goal.decreases-loop-place
decreases-loop-place l = length l.runs - l.place
