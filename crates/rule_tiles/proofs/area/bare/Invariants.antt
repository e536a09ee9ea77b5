-- The tiles so far.
use Rattle.std.proofs.Common.{◌≡◌, take}
use Rattle.rule_tiles.specs.Areas.{bare_of}
use Rattle.rule_tiles.proofs.area.bare.Given as goal

abbrev pub invariant-loop-tile : goal.invariant-loop-tile
invariant-loop-tile l = l.area ≡ bare_of (take l.tile-index l.tiles)
