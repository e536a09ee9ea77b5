use Rattle.mask_pieces.proofs.Listing.{AreListed}
use Rattle.mask_pieces.proofs.cutting.pieces_of.Given as goal

abbrev pub invariant-loop-i : goal.invariant-loop-i
invariant-loop-i l = AreListed l.layer l.tiles l.i l.pieces
