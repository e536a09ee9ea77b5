-- The flags so far.
use Rattle.rule_tiles.specs.Cuts.{AreFlags, IsUnsizedAt}
use Rattle.rule_tiles.proofs.cuts.odd_sizes.Given as goal

abbrev pub invariant-loop-tile : goal.invariant-loop-tile
invariant-loop-tile l = AreFlags (IsUnsizedAt l.tiles) l.tile-index l.odd
