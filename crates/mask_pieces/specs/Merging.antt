-- What is next of two lists of pieces.
use Rattle.std.specs.Prelude.{◌≡◌, ℕ, ◌<◌, List, length, Some, slice_get}
use Rattle.mask_pieces.specs.declared.piece.Piece.{Piece}
use Rattle.mask_pieces.specs.Pieces.{IsBefore}

-- there is a piece at the place in the first list, and it stands before that of the second list
pub record ComesFirst (a : List Piece) (i : ℕ) (b : List Piece) (j : ℕ) : Type 0 where
  pub there : i < length a
  pub before : (p q : Piece) → slice_get a i ≡ Some p → slice_get b j ≡ Some q → IsBefore p q
