use Rattle.std.proofs.Common.{◌≡◌, map, take}
use Rattle.mask_pieces.specs.Pieces.{over}
use Rattle.mask_pieces.proofs.over.pieces_over.Given as goal

abbrev pub invariant-loop-tile : goal.invariant-loop-tile
invariant-loop-tile l = l.pieces_there ≡ map (over l.numbers l.pieces) (take l.tile-index l.found)
