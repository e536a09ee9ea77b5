-- Areas of rectangles, and edges that they share.
use Rattle.std.specs.Prelude.{ℕ, ◌+◌, ◌*◌, ℤ}
use Rattle.std.specs.Int.{int_gap, int_max, int_min}
use Rattle.lam_geom.specs.declared.rect.Rect.{Rect}

-- how many squares a rectangle has
abbrev pub area : Rect → ℕ
area r = int_gap r.x0 r.x1 * int_gap r.y0 r.y1

-- how long a part the stretches from a to b and from c to d have in common
abbrev pub common : (a b c d : ℤ) → ℕ
common a b c d = int_gap (int_max a c) (int_min b d)

-- how long the edge is that two rectangles share which have no square in common: on one axis they only meet
abbrev pub shared_edge : Rect → Rect → ℕ
shared_edge r q = common r.x0 r.x1 q.x0 q.x1 + common r.y0 r.y1 q.y0 q.y1
