-- Rectangles in order.
use Rattle.std.specs.Prelude.{List, ◌≤◌, length, Contains}
use Rattle.std.specs.List.Sorted.{IsStrictlySortedBy}
use Rattle.std.specs.Ordering.{int_cmp, nat_cmp, on, then_cmp}
use Rattle.std.specs.declared.cmp.Ordering.{Ordering}
use Rattle.lam_geom.specs.declared.rect.Rect.{Rect}
use Rattle.lam_geom.specs.Squares.{rank}

-- by layer, and then by the left, the lower, the right and the upper side
abbrev pub rect_cmp : Rect → Rect → Ordering
rect_cmp = then_cmp (then_cmp (then_cmp (then_cmp (on (λ r. rank r.layer) nat_cmp) (on (λ r. r.x0) int_cmp))
    (on (λ r. r.y0) int_cmp)) (on (λ r. r.x1) int_cmp)) (on (λ r. r.y1) int_cmp)

-- the list has all rectangles of which this is so, each once, in order
pub record AreAll (Is : Rect → Type 0) (rects : List Rect) : Type 0 where
  pub ascending : IsStrictlySortedBy rect_cmp rects
  pub are : (r : Rect) → Contains rects r → Is r
  pub all : (r : Rect) → Is r → Contains rects r

-- the same elements in order, each once
pub record EachOnce {X : Type 0} (cmp : X → X → Ordering) (xs ys : List X) : Type 0 where
  pub ascending : IsStrictlySortedBy cmp ys
  pub kept : (x : X) → Contains xs x → Contains ys x
  pub among : (x : X) → Contains ys x → Contains xs x
  pub few : length ys ≤ length xs
