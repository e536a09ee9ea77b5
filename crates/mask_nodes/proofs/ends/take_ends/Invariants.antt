use Rattle.std.proofs.Common.{◌-◌, length}
use Rattle.mask_nodes.proofs.Ending.{AreTaken}
use Rattle.mask_nodes.proofs.ends.take_ends.Given as goal

abbrev pub invariant-loop-place : goal.invariant-loop-place
invariant-loop-place l = AreTaken l.ends l.channel l.fn.place l.place l.nodes

abbrev pub decreases-loop-place : goal.decreases-loop-place
decreases-loop-place l = length l.ends - l.place
