-- Scales, edges and placements, as what they stand for.
use Rattle.std.specs.Prelude.{ℕ, ◌^◌, ◌-◌, Bool, true, false, not, ℤ, pos, neg_ℤ, ◌+ℤ◌, ◌-ℤ◌, ◌<ℤ◌, ◌≤ℤ◌}
use Rattle.lam_geom.specs.declared.layer.Layer.{Layer}
use Rattle.lam_geom.specs.declared.place.Point.{Point}
use Rattle.lam_geom.specs.declared.rect.Rect.{Rect}
use Rattle.cif_form.specs.declared.limits.TheConstants.{NUMBER_LIMIT}
use Rattle.cif_form.specs.Place.{Scale}
use Rattle.cif_place.specs.declared.ratio.Ratio.{Ratio}
use Rattle.cif_place.specs.declared.edges.Edges.{Edges}
use Rattle.cif_place.specs.declared.edges.Extent.{Extent}
use Rattle.cif_place.specs.declared.placement.Placement.{Placement}

-- at most n in size
abbrev pub IsWithin : ℕ → ℤ → Type 0
IsWithin n z = (neg_ℤ (pos n) ≤ℤ z) × (z ≤ℤ pos n)

-- under the limit in size
abbrev pub IsShort : ℤ → Type 0
IsShort z = IsWithin (NUMBER_LIMIT - 1) z

abbrev pub IsShortPoint : Point → Type 0
IsShortPoint p = IsShort p.x × IsShort p.y

abbrev pub scale_of : Ratio → Scale
scale_of r = record { a = r.a; b = r.b }

-- both numbers are above 0, and small
pub record IsFitRatio (r : Ratio) : Type 0 where
  pub a : pos 0 <ℤ r.a
  pub b : pos 0 <ℤ r.b
  pub short_a : r.a ≤ℤ pos (NUMBER_LIMIT - 1)
  pub short_b : r.b ≤ℤ pos (NUMBER_LIMIT - 1)

abbrev pub turned : Extent → Extent
turned e = record { across = e.up; up = e.across }

-- the rectangle with these edges
abbrev pub rect_of : Layer → Edges → Rect
rect_of l e = record { layer = l; x0 = e.left; y0 = e.bottom; x1 = e.right; y1 = e.top }

pub record AreSmall (e : Edges) : Type 0 where
  pub left : IsWithin (2 ^ 64) e.left
  pub bottom : IsWithin (2 ^ 64) e.bottom
  pub right : IsWithin (2 ^ 64) e.right
  pub top : IsWithin (2 ^ 64) e.top

-- x and y are exchanged
abbrev pub exchanged_if : Bool → Edges → Edges
exchanged_if true e = record { left = e.bottom; bottom = e.left; right = e.top; top = e.right }
exchanged_if false e = e

-- the first or the second, but not both
abbrev pub either : Bool → Bool → Bool
either true b = not b
either false b = b

abbrev pub flipped : Bool → ℤ → ℤ
flipped true z = neg_ℤ z
flipped false z = z

-- where a span ends that is flipped or not, and shifted
abbrev pub low_end : Bool → ℤ → ℤ → ℤ → ℤ
low_end true shift low high = shift -ℤ high
low_end false shift low high = shift +ℤ low

abbrev pub high_end : Bool → ℤ → ℤ → ℤ → ℤ
high_end true shift low high = shift -ℤ low
high_end false shift low high = shift +ℤ high

abbrev pub turned_if : Bool → Rect → Rect
turned_if true r = record { layer = r.layer; x0 = r.y0; y0 = r.x0; x1 = r.y1; y1 = r.x1 }
turned_if false r = r

abbrev pub laid : Bool → Bool → ℤ → ℤ → Rect → Rect
laid flips_x flips_y dx dy r = record {
  layer = r.layer;
  x0 = low_end flips_x dx r.x0 r.x1;
  y0 = low_end flips_y dy r.y0 r.y1;
  x1 = high_end flips_x dx r.x0 r.x1;
  y1 = high_end flips_y dy r.y0 r.y1;
}

-- what a placement does with a rectangle
abbrev pub place_of : Placement → Rect → Rect
place_of p r = laid p.flips_x p.flips_y p.dx p.dy (turned_if p.swaps r)

-- the same placement with x and y exchanged
abbrev pub switched_if : Bool → Placement → Placement
switched_if true p = record { swaps = p.swaps; flips_x = p.flips_y; flips_y = p.flips_x; dx = p.dy; dy = p.dx }
switched_if false p = p

-- the second placement, and then the first
abbrev pub after : Placement → Placement → Placement
after p q = record {
  swaps = either p.swaps q.swaps;
  flips_x = either p.flips_x (switched_if p.swaps q).flips_x;
  flips_y = either p.flips_y (switched_if p.swaps q).flips_y;
  dx = p.dx +ℤ flipped p.flips_x (switched_if p.swaps q).dx;
  dy = p.dy +ℤ flipped p.flips_y (switched_if p.swaps q).dy;
}

-- it shifts by at most n
abbrev pub IsHeld : ℕ → Placement → Type 0
IsHeld n p = IsWithin n p.dx × IsWithin n p.dy

-- the placement that leaves shapes where they are
abbrev pub here : Placement
here = record { swaps = false; flips_x = false; flips_y = false; dx = pos 0; dy = pos 0 }
