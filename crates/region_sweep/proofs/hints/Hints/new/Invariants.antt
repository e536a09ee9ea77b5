-- The buckets up to the mark's.
use Rattle.std.proofs.Common.{◌+◌, ◌-◌, length}
use Rattle.region_sweep.proofs.hints.Hints.new.Given as goal

abbrev pub decreases-loop-bucket : goal.decreases-loop-bucket
decreases-loop-bucket l = l.bucket + 1 - length l.starts
