use Rattle.std.proofs.Common.{◌≡◌, ◌++◌, take, map}
use Rattle.cif_place.specs.Pointing.{on_layer}
use Rattle.cif_place.proofs.point.draw_pieces.Given as goal

abbrev pub invariant-loop-piece : goal.invariant-loop-piece
invariant-loop-piece l = l.shapes ≡ l.initial.shapes ++ map (on_layer l.layer) (take l.piece-index l.pieces)
