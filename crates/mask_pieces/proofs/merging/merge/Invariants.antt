use Rattle.std.proofs.Common.{length, ◌-◌, ◌+◌}
use Rattle.mask_pieces.proofs.Listing.{IsMerged}
use Rattle.mask_pieces.proofs.merging.merge.Given as goal

abbrev pub invariant-loop-i : goal.invariant-loop-i
invariant-loop-i l = IsMerged l.a l.b l.i l.j l.merged

abbrev pub decreases-loop-i : goal.decreases-loop-i
decreases-loop-i l = (length l.a - l.i) + (length l.b - l.j)
