-- Numbers of classes, in the order of their least things.
use Rattle.std.specs.Prelude.{◌≡◌, ℕ, ◌<◌, List, length, get_or, All, AllPairs, Contains, Bool}
use Rattle.mask_pieces.specs.declared.piece.Piece.{Piece}
use Rattle.mask_pieces.specs.Pieces.{no_piece, is_conductor}

-- whether the piece with this number is a conductor is as is said
abbrev pub Conducts : List Piece → Bool → ℕ → Type 0
Conducts pieces conducting k = is_conductor (get_or pieces k no_piece).part ≡ conducting

-- of the first things, the list has the least of each class of these, in ascending order
pub record AreRoots (Is : ℕ → Type 0) (least : List ℕ) (place : ℕ) (roots : List ℕ) : Type 0 where
  pub ascending : AllPairs ◌<◌ roots
  pub each : All (λ k. (k < place) × Is k × (get_or least k 0 ≡ k)) roots
  pub all : (k : ℕ) → k < place → Is k → get_or least k 0 ≡ k → Contains roots k

-- of the first things, each of these has the number of its class
pub record AreNumbers (Is : ℕ → Type 0) (least : List ℕ) (place : ℕ) (roots numbers : List ℕ) : Type 0 where
  pub as_many : length numbers ≡ place
  pub each : (k : ℕ) → k < place → Is k
      → (get_or numbers k 0 < length roots) × (get_or roots (get_or numbers k 0) 0 ≡ get_or least k 0)
