-- The corners so far.
use Rattle.std.proofs.Common.{◌≡◌, map, take}
use Rattle.rule_tiles.specs.Cuts.{corner_of}
use Rattle.rule_tiles.proofs.blocks.corners.Given as goal

abbrev pub invariant-loop-tile : goal.invariant-loop-tile
invariant-loop-tile l = l.corners ≡ map corner_of (take l.tile-index l.tiles)
