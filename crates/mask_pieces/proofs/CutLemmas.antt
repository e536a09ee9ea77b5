-- The pieces of slices that are the tiles of masks.
use Rattle.std.proofs.Common.{◌≡◌, List, subst, subst₂}
use Rattle.mask_tiles.specs.declared.tile.Tile.{Tile}
use Rattle.mask_pieces.specs.declared.piece.Piece.{Piece}
use Rattle.mask_pieces.specs.Pieces.{AreCutUp}

pub cut_same : (a b c d e f : List Tile) (ps : List Piece) → a ≡ b → c ≡ d → e ≡ f → AreCutUp a c e ps
    → AreCutUp b d f ps
cut_same a b c d e f ps p q r h = subst₂ (λ x y. AreCutUp x y f ps) p q (subst (λ z. AreCutUp a c z ps) r h)
