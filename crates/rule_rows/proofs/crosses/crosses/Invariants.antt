-- The crosses of the tiles so far.
use Rattle.std.proofs.Common.{take}
use Rattle.rule_rows.specs.Closed.{AreCrosses}
use Rattle.rule_rows.proofs.crosses.crosses.Given as goal

abbrev pub invariant-loop-tile : goal.invariant-loop-tile
invariant-loop-tile l = AreCrosses (take l.tile-index l.tiles) l.rects
