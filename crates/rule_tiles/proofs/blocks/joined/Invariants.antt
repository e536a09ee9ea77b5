-- The flags so far.
use Rattle.rule_tiles.specs.Cuts.{AreFlags, IsJoined}
use Rattle.rule_tiles.proofs.blocks.joined.Given as goal

abbrev pub invariant-loop-index : goal.invariant-loop-index
invariant-loop-index l = AreFlags (IsJoined l.odd l.metal l.polysilicon l.diffusion) l.index l.bare
