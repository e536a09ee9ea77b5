use Rattle.std.proofs.Common.{take}
use Rattle.mask_sizes.specs.Sums.{AreValues, channel_edge}
use Rattle.mask_sizes.proofs.sums.edges.Given as goal

abbrev pub invariant-loop-pair : goal.invariant-loop-pair
invariant-loop-pair l =
    AreValues (channel_edge l.numbers l.pieces l.channels (take l.pair-index l.touching)) l.count l.sums.items
