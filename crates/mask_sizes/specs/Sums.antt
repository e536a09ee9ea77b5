-- Sums over the pieces of a mask, class by class.
use Rattle.std.specs.Prelude.{◌≡◌, ℕ, zero, suc, ◌+◌, ◌<◌, ◌==◌, ◌&&◌, not, if◌then◌else◌, Bool, List, length, get_or}
use Rattle.std.specs.Prelude.{slice_index}
use Rattle.std.specs.List.{sum_by}
use Rattle.lam_geom.specs.Squares.{rank}
use Rattle.union_find.specs.declared.pair.Pair.{Pair}
use Rattle.mask_pieces.specs.declared.piece.Piece.{Piece}
use Rattle.mask_pieces.specs.Pieces.{is_conductor, no_piece}
use Rattle.mask_sizes.specs.declared.sums.Measured.{Measured}
use Rattle.mask_sizes.specs.declared.sums.Measured.TheVariants.{Channels, Conductors}
use Rattle.net_sizes.specs.Sides.{area, shared_edge}

-- the sum of f over the numbers below n
abbrev pub sum_below : (ℕ → ℕ) → ℕ → ℕ
sum_below f zero = 0
sum_below f (suc n) = sum_below f n + f n

-- what class k gets of an amount for another class, or for itself
abbrev pub given : (to amount k : ℕ) → ℕ
given to amount k = if k == to then amount else 0

-- whether the piece is of a channel, or a conductor of the layer
abbrev pub is_of : Measured → Piece → Bool
is_of Channels p = not (is_conductor p.part)
is_of (Conductors l) p = is_conductor p.part && rank p.rect.layer == rank l

-- what the piece with the number i gives to the area of class k
abbrev pub piece_area : Measured → List Piece → List ℕ → (k i : ℕ) → ℕ
piece_area what pieces classes k i =
    let p = get_or pieces i no_piece in if is_of what p then given (get_or classes i 0) (area p.rect) k else 0

-- the area of a class: of the channel with this number, or of the node's conductors of the layer
abbrev pub class_area : Measured → List Piece → List ℕ → ℕ → ℕ
class_area what pieces classes k = sum_below (piece_area what pieces classes k) (length pieces)

-- what two pieces give to the edge of channel k: the first is of the channel, and the second conducts beside it
abbrev pub end_edge : List Piece → List ℕ → (k i j : ℕ) → ℕ
end_edge pieces channels k i j =
    let p = get_or pieces i no_piece in
    let q = get_or pieces j no_piece in
    if not (is_conductor p.part) && is_conductor q.part
    then given (get_or channels i 0) (shared_edge p.rect q.rect) k
    else 0

-- the same of two tiles that touch, whichever of them is the channel's
abbrev pub pair_edge : List ℕ → List Piece → List ℕ → ℕ → Pair → ℕ
pair_edge numbers pieces channels k t =
    end_edge pieces channels k (get_or numbers t.a 0) (get_or numbers t.b 0)
    + end_edge pieces channels k (get_or numbers t.b 0) (get_or numbers t.a 0)

-- the edge that a channel shares with its ends
abbrev pub channel_edge : List ℕ → List Piece → List ℕ → List Pair → ℕ → ℕ
channel_edge numbers pieces channels touching k = sum_by (pair_edge numbers pieces channels k) touching

-- the list has so many values, which are those of a function
pub record AreValues (f : ℕ → ℕ) (count : ℕ) (values : List ℕ) : Type 0 where
  pub as_many : length values ≡ count
  pub each : (k : ℕ) → k < count → slice_index values k ≡ f k
