-- Squares of a kind cut into rectangles, and which of the rectangles are linked.
use Rattle.std.specs.Prelude.{◌≡◌, ◌↔◌, List, ℤ, Contains}
use Rattle.lam_geom.specs.declared.layer.Layer.{Layer}
use Rattle.lam_geom.specs.declared.rect.Rect.{Rect}
use Rattle.lam_geom.specs.Chains.{Chain}
use Rattle.lam_geom.specs.Squares.{Square, Adjoin, IsIn, Touch, covered}
use Rattle.switch_net.specs.Conductors.{Conducts, Contact, Joined, IsChannelSquare}

-- the squares of a kind are exactly those of these rectangles
pub record AreCut (Is : Square → Type 0) (pieces : List Rect) : Type 0 where
  pub whole : (s : Square) → Is s → (r : Rect) × Contains pieces r × IsIn r s
  pub within : (r : Rect) (s : Square) → Contains pieces r → IsIn r s → Is s

-- two of the rectangles, on one layer, have a square or an edge in common
pub record Touching (pieces : List Rect) (r q : Rect) : Type 0 where
  pub one : Contains pieces r
  pub other : Contains pieces q
  pub same : r.layer ≡ q.layer
  pub touch : Touch r q

-- two of the rectangles have squares that a contact joins
pub record Meeting (covers : Layer → ℤ → ℤ → Type 0) (pieces : List Rect) (r q : Rect) : Type 0 where
  pub one : Contains pieces r
  pub other : Contains pieces q
  pub s : Square
  pub t : Square
  pub in_one : IsIn r s
  pub in_other : IsIn q t
  pub contact : Contact covers s t

-- two of the rectangles touch on one layer, or meet at a contact
pub data Linked (covers : Layer → ℤ → ℤ → Type 0) (pieces : List Rect) (r q : Rect) : Type 0 where
  touch : Touching pieces r q → Linked covers pieces r q
  meet : Meeting covers pieces r q → Linked covers pieces r q

-- however the conductors are cut, two of them are joined by a chain exactly where their rectangles are linked by one
abbrev pub ConductorsFollowPieces : Type 0
ConductorsFollowPieces =
    (shapes pieces : List Rect) → AreCut (Conducts (covered shapes)) pieces
    → (r q : Rect) (s t : Square) → Contains pieces r → Contains pieces q → IsIn r s → IsIn q t
    → Chain (Joined (covered shapes)) s t ↔ Chain (Linked (covered shapes) pieces) r q

-- however the channel squares are cut, two of them are of one channel exactly where their rectangles touch in a chain
abbrev pub ChannelsFollowPieces : Type 0
ChannelsFollowPieces =
    (shapes pieces : List Rect) → AreCut (IsChannelSquare (covered shapes)) pieces
    → (r q : Rect) (s t : Square) → Contains pieces r → Contains pieces q → IsIn r s → IsIn q t
    → Chain (Adjoin (IsChannelSquare (covered shapes))) s t ↔ Chain (Touching pieces) r q
