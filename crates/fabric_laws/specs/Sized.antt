-- How large channels are, in lambda, and which way current runs through them.
use Rattle.std.specs.Prelude.{◌≡◌, ◌⊎◌, ◌↔◌, ℕ, ◌*◌, ℤ, pos, ◌+ℤ◌, ◌≤ℤ◌, ◌<ℤ◌}
use Rattle.lam_geom.specs.declared.layer.Layer.{Layer}
use Rattle.lam_geom.specs.declared.layer.Layer.TheVariants.{ND, NP}
use Rattle.lam_geom.specs.declared.rect.Rect.{Rect}
use Rattle.lam_geom.specs.Extent.{lambda}
use Rattle.lam_geom.specs.Squares.{Square, IsIn, covered}
use Rattle.switch_net.specs.declared.network.ChannelKind.TheVariants.{Enhancement, Depletion}
use Rattle.switch_net.specs.Conductors.{IsChannelSquare}
use Rattle.switch_net.specs.Drawn.{IsOfChannel, IsEnd, IsKind}
use Rattle.fabric.specs.Plan.{Plan, IsFabric}
use Rattle.fabric.specs.Shape.{shape}

-- the outline of a channel so many lambda wide and so many high, from its lower left corner
abbrev pub outline : ℤ → ℤ → ℕ → ℕ → Rect
outline left low wide high = record {
  layer = NP;
  x0 = left;
  y0 = low;
  x1 = left +ℤ pos (lambda * wide);
  y1 = low +ℤ pos (lambda * high);
}

-- the place of the square is next to the rectangle, at its left or its right edge,
pub record IsLeftOrRight (q : Rect) (t : Square) : Type 0 where
  pub bottom : q.y0 ≤ℤ t.y
  pub top : t.y <ℤ q.y1
  pub beside : (t.x +ℤ pos 1 ≡ q.x0) ⊎ (t.x ≡ q.x1)

-- or at its lower or its upper edge
pub record IsBelowOrAbove (q : Rect) (t : Square) : Type 0 where
  pub left : q.x0 ≤ℤ t.x
  pub right : t.x <ℤ q.x1
  pub beside : (t.y +ℤ pos 1 ≡ q.y0) ⊎ (t.y ≡ q.y1)

-- The squares of the channel of r are those of a rectangle, so many lambda wide and so many high, and its ends are the
-- squares of diffusion along two edges of it: all of these squares, and no other.
pub record IsOblong (covers : Layer → ℤ → ℤ → Type 0) (r : Square) (wide high : ℕ) (IsAlong : Rect → Square → Type 0) :
    Type 0 where
  pub left : ℤ
  pub low : ℤ
  pub squares : (s : Square) → IsOfChannel covers r s ↔ IsIn (outline left low wide high) s
  pub ends : (t : Square) → IsEnd covers r t ↔ (t.layer ≡ ND) × IsAlong (outline left low wide high) t

-- The channel of r is a transistor's, 2 by 2, or a pull-up's, 2 wide and 16 high. The current of a transistor runs from
-- left to right, 2 long and 2 wide, and that of a pull-up upright, 16 long and 2 wide: so the ratio is 8.
pub data IsSized (covers : Layer → ℤ → ℤ → Type 0) (r : Square) : Type 0 where
  transistor : IsKind covers r Enhancement → IsOblong covers r 2 2 IsLeftOrRight → IsSized covers r
  pull_up : IsKind covers r Depletion → IsOblong covers r 2 16 IsBelowOrAbove → IsSized covers r

-- each channel is one of these: none is partial
abbrev pub AreSized : (Layer → ℤ → ℤ → Type 0) → Type 0
AreSized covers = (r : Square) → IsChannelSquare covers r → IsSized covers r

-- the channels of a fabric
abbrev pub FabricsAreSized : Type 0
FabricsAreSized = (f : Plan) → IsFabric f → AreSized (covered (shape f))
