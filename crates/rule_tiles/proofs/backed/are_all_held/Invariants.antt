-- The cuts so far are held.
use Rattle.rule_tiles.specs.Backed.{AreAllHeld}
use Rattle.rule_tiles.proofs.backed.are_all_held.Given as goal

abbrev pub invariant-loop-index : goal.invariant-loop-index
invariant-loop-index l = AreAllHeld l.tiles l.corners l.odd l.index
