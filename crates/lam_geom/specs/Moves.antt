-- Rectangles turned and moved.
use Rattle.std.specs.Prelude.{ℤ, pos, neg_ℤ, ◌+ℤ◌, ◌≤ℤ◌, ℕ}
use Rattle.lam_geom.specs.declared.rect.Rect.{Rect}
use Rattle.lam_geom.specs.declared.place.Orient.{Orient}
use Rattle.lam_geom.specs.declared.place.Orient.TheVariants.{R0, R1, R2, R3, M0, M1, M2, M3}

-- a quarter turn against the clock, about the origin
unfoldable pub quarter_turn : Rect → Rect
quarter_turn r = record { layer = r.layer; x0 = neg_ℤ r.y1; y0 = r.x0; x1 = neg_ℤ r.y0; y1 = r.x1 }

-- x is negated
unfoldable pub mirrored : Rect → Rect
mirrored r = record { layer = r.layer; x0 = neg_ℤ r.x1; y0 = r.y0; x1 = neg_ℤ r.x0; y1 = r.y1 }

abbrev pub turned : Orient → Rect → Rect
turned R0 r = r
turned R1 r = quarter_turn r
turned R2 r = quarter_turn (quarter_turn r)
turned R3 r = quarter_turn (quarter_turn (quarter_turn r))
turned M0 r = mirrored r
turned M1 r = quarter_turn (mirrored r)
turned M2 r = quarter_turn (quarter_turn (mirrored r))
turned M3 r = quarter_turn (quarter_turn (quarter_turn (mirrored r)))

unfoldable pub shifted : ℤ → ℤ → Rect → Rect
shifted dx dy r = record { layer = r.layer; x0 = r.x0 +ℤ dx; y0 = r.y0 +ℤ dy; x1 = r.x1 +ℤ dx; y1 = r.y1 +ℤ dy }

-- how far from the origin the edges of a mask may be
abbrev pub far : ℕ
far = 1_099_511_627_776

-- at most 2^40 in size
abbrev pub IsNear : ℤ → Type 0
IsNear z = (neg_ℤ (pos far) ≤ℤ z) × (z ≤ℤ pos far)

pub record IsNearRect (r : Rect) : Type 0 where
  pub x0 : IsNear r.x0
  pub y0 : IsNear r.y0
  pub x1 : IsNear r.x1
  pub y1 : IsNear r.y1
