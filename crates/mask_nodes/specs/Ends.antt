-- The ends of channels, and what their pieces are.
use Rattle.std.specs.Prelude.{◌≡◌, ◌↔◌, ◌⊎◌, ℕ, ◌+◌, ◌<◌, Bool, true, false, List, length, get_or, Option, Some, None}
use Rattle.std.specs.Prelude.{AllPairs, Contains, slice_get}
use Rattle.switch_net.specs.declared.network.ChannelKind.{ChannelKind}
use Rattle.switch_net.specs.declared.network.ChannelKind.TheVariants.{Enhancement, Depletion, Partial}
use Rattle.switch_net.specs.declared.network.Channel.{Channel}
use Rattle.union_find.specs.declared.pair.Pair.{Pair}
use Rattle.mask_pieces.specs.declared.piece.Part.{Part}
use Rattle.mask_pieces.specs.declared.piece.Piece.{Piece}
use Rattle.mask_pieces.specs.Pieces.{no_piece, conducts_at}

-- two numbers
abbrev pub pair_of : ℕ → ℕ → Pair
pair_of a b = record { a = a; b = b }

-- what a pair among the first ones gives
pub record IsGivenBy (Gives : Pair → Pair → Type 0) (touching : List Pair) (place : ℕ) (x : Pair) : Type 0 where
  pub at : ℕ
  pub before : at < place
  pub pair : Pair
  pub is : slice_get touching at ≡ Some pair
  pub gives : Gives pair x

-- a channel's number and a node's: of the piece i, which is a channel's, and of the piece j, which conducts
pub record IsEndAt (pieces : List Piece) (channels nodes : List ℕ) (i j : ℕ) (x : Pair) : Type 0 where
  pub channel : conducts_at pieces i ≡ false
  pub conductor : conducts_at pieces j ≡ true
  pub same : x ≡ pair_of (get_or channels i 0) (get_or nodes j 0)

-- the same for the pieces of two tiles, in whichever order they stand
abbrev pub IsEndOf : List ℕ → List Piece → List ℕ → List ℕ → Pair → Pair → Type 0
IsEndOf numbers pieces channels nodes p x =
    IsEndAt pieces channels nodes (get_or numbers p.a 0) (get_or numbers p.b 0) x
    ⊎ IsEndAt pieces channels nodes (get_or numbers p.b 0) (get_or numbers p.a 0) x

-- one of the first pieces is of this part and of this channel
pub record HasPart (pieces : List Piece) (channels : List ℕ) (part : Part) (place channel : ℕ) : Type 0 where
  pub k : ℕ
  pub before : k < place
  pub piece : Piece
  pub at : slice_get pieces k ≡ Some piece
  pub is : piece.part ≡ part
  pub number : get_or channels k 0 ≡ channel

-- the number, or 0
abbrev pub or_zero : Option ℕ → ℕ
or_zero None = 0
or_zero (Some n) = n

-- the node of the polysilicon over the first square of the piece with this number; the list says from the first place
-- on what is over the tiles
abbrev pub gate_of : ℕ → List (Option ℕ) → List Piece → List ℕ → ℕ → ℕ
gate_of first over pieces nodes root =
    get_or nodes (or_zero (get_or over (first + (get_or pieces root no_piece).tile) None)) 0

-- there is polysilicon over that square, and its piece has a node
pub record HasGate (first : ℕ) (over : List (Option ℕ)) (pieces : List Piece) (nodes : List ℕ) (root : ℕ) : Type 0 where
  pub within : root < length pieces
  pub over_within : first + (get_or pieces root no_piece).tile < length over
  pub piece : ℕ
  pub is : get_or over (first + (get_or pieces root no_piece).tile) None ≡ Some piece
  pub has_node : piece < length nodes

-- the kind of a channel, by whether it has a piece without implant and whether it has one of implant
abbrev pub kind_of : Bool → Bool → ChannelKind
kind_of plain false = Enhancement
kind_of true true = Partial
kind_of false true = Depletion

-- the channel has what the lists say of this number
pub record IsListedAs (gates : List ℕ) (ends : List Pair) (plain implanted : List Bool) (c : ℕ)
    (channel : Channel) : Type 0 where
  pub gate : channel.gate ≡ get_or gates c 0
  pub ascending : AllPairs (λ j k. j < k) channel.ends
  pub ends_are : (k : ℕ) → Contains channel.ends k ↔ Contains ends (pair_of c k)
  pub kind : channel.kind ≡ kind_of (get_or plain c false) (get_or implanted c false)

-- each of the first channels is listed
pub record AreListed (gates : List ℕ) (ends : List Pair) (plain implanted : List Bool) (place : ℕ)
    (channels : List Channel) : Type 0 where
  pub as_many : length channels ≡ place
  pub each : (c : ℕ) (channel : Channel) → slice_get channels c ≡ Some channel
      → IsListedAs gates ends plain implanted c channel
