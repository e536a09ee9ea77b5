-- The long ones of the tiles so far are drawn.
use Rattle.rule_rows.proofs.Stretching.{AreDrawn}
use Rattle.rule_rows.proofs.stretches.long.Given as goal

abbrev pub invariant-loop-tile : goal.invariant-loop-tile
invariant-loop-tile l = AreDrawn l.tile-items l.tile-index l.rects
