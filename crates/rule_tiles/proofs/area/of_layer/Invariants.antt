-- The rectangles so far.
use Rattle.std.proofs.Common.{take}
use Rattle.rule_tiles.proofs.Listing.{AreOfLayer}
use Rattle.rule_tiles.proofs.area.of_layer.Given as goal

abbrev pub invariant-loop-shape : goal.invariant-loop-shape
invariant-loop-shape l = AreOfLayer l.layer (take l.shape-index l.shapes) l.own
