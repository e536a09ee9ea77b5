use Rattle.mask_pieces.specs.Pieces.{AreTileNumbers}
use Rattle.mask_pieces.proofs.tile_numbers.tile_numbers.Given as goal

abbrev pub invariant-loop-i : goal.invariant-loop-i
invariant-loop-i l = AreTileNumbers l.layer l.count l.pieces l.i l.numbers.items
