-- The pairs so far.
use Rattle.std.proofs.Common.{length, take}
use Rattle.rule_tiles.specs.Cuts.{AreFlags}
use Rattle.rule_tiles.proofs.Pairs.{IsMarked}
use Rattle.rule_tiles.proofs.cuts.odd_flags.Given as goal

abbrev pub invariant-loop-pair : goal.invariant-loop-pair
invariant-loop-pair l = AreFlags (IsMarked l.tiles (take l.pair-index l.pairs)) (length l.tiles) l.odd
