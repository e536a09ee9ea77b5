use Rattle.std.proofs.Common.{◌-◌, length}
use Rattle.slice_symbols.proofs.Parted.{ArePartedTo}
use Rattle.slice_symbols.proofs.symbols.share.Given as goal

abbrev pub invariant-loop-at : goal.invariant-loop-at
invariant-loop-at l = ArePartedTo l.bands l.standing l.fn.rest l.at l.common l.rest

abbrev pub decreases-loop-at : goal.decreases-loop-at
decreases-loop-at l = length l.standing - l.at
