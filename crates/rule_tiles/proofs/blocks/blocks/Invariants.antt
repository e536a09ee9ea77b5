-- The blocks so far.
use Rattle.std.proofs.Common.{◌≡◌, map, take}
use Rattle.rule_tiles.specs.Cuts.{block_of}
use Rattle.rule_tiles.proofs.blocks.blocks.Given as goal

abbrev pub invariant-loop-corner : goal.invariant-loop-corner
invariant-loop-corner l = l.blocks ≡ map (block_of 2000) (take l.corner-index l.corners)
