-- Laws of placements.
use Rattle.std.proofs.Common.{ℕ, ◌+◌, ◌≡◌, refl, ◌∙◌, ap, arith, Bool, true, false}
use Rattle.std.specs.Prelude.{ℤ, ◌+ℤ◌}
use Rattle.std.proofs.lemmas.Int.{ints}
use Rattle.lam_geom.specs.declared.layer.Layer.{Layer}
use Rattle.lam_geom.specs.declared.rect.Rect.{Rect}
use Rattle.cif_form.proofs.OnePlace.{same_rect}
use Rattle.cif_place.specs.declared.edges.Edges.{Edges}
use Rattle.cif_place.specs.declared.placement.Placement.{Placement}
use Rattle.cif_place.specs.Placing.{IsWithin, IsHeld, AreSmall, rect_of, exchanged_if, either, flipped, low_end}
use Rattle.cif_place.specs.Placing.{high_end, turned_if, laid, place_of, switched_if, after}

pub small_exchanged : (b : Bool) (e : Edges) → AreSmall e → AreSmall (exchanged_if b e)
small_exchanged true e h = record { left = h.bottom; bottom = h.left; right = h.top; top = h.right }
small_exchanged false e h = h

pub rect_exchanged : (b : Bool) (l : Layer) (e : Edges) → rect_of l (exchanged_if b e) ≡ turned_if b (rect_of l e)
rect_exchanged true l e = refl
rect_exchanged false l e = refl

-- ---- one placement after another

low_twice : (f g : Bool) (d e a b : ℤ)
    → low_end (either f g) (d +ℤ flipped f e) a b ≡ low_end f d (low_end g e a b) (high_end g e a b)
low_twice true true d e a b = omega (arith, ints)
low_twice true false d e a b = omega (arith, ints)
low_twice false true d e a b = omega (arith, ints)
low_twice false false d e a b = omega (arith, ints)

high_twice : (f g : Bool) (d e a b : ℤ)
    → high_end (either f g) (d +ℤ flipped f e) a b ≡ high_end f d (low_end g e a b) (high_end g e a b)
high_twice true true d e a b = omega (arith, ints)
high_twice true false d e a b = omega (arith, ints)
high_twice false true d e a b = omega (arith, ints)
high_twice false false d e a b = omega (arith, ints)

laid_twice : (fx fy gx gy : Bool) (dx dy ex ey : ℤ) (r : Rect)
    → laid (either fx gx) (either fy gy) (dx +ℤ flipped fx ex) (dy +ℤ flipped fy ey) r
    ≡ laid fx fy dx dy (laid gx gy ex ey r)
laid_twice fx fy gx gy dx dy ex ey r =
    same_rect _ _ _ _ _ _ _ _ _ _ refl (low_twice fx gx dx ex r.x0 r.x1) (low_twice fy gy dy ey r.y0 r.y1)
    (high_twice fx gx dx ex r.x0 r.x1) (high_twice fy gy dy ey r.y0 r.y1)

turned_laid : (s t : Bool) (q : Placement) (r : Rect)
    → (let e = switched_if s q in
    laid e.flips_x e.flips_y e.dx e.dy (turned_if (either s t) r)
    ≡ turned_if s (laid q.flips_x q.flips_y q.dx q.dy (turned_if t r)))
turned_laid true true q r = refl
turned_laid true false q r = refl
turned_laid false true q r = refl
turned_laid false false q r = refl

pub place_after : (p q : Placement) (r : Rect) → place_of (after p q) r ≡ place_of p (place_of q r)
place_after p q r =
    let e = switched_if p.swaps q in
    laid_twice p.flips_x p.flips_y e.flips_x e.flips_y p.dx p.dy e.dx e.dy (turned_if (either p.swaps q.swaps) r)
    ∙ ap (laid p.flips_x p.flips_y p.dx p.dy) (turned_laid p.swaps q.swaps q r)

-- ---- sizes of shifts

within_flipped : (b : Bool) (m n : ℕ) (y z : ℤ) → IsWithin m y → IsWithin n z → IsWithin (m + n) (y +ℤ flipped b z)
within_flipped true m n y z h k = (omega (arith, ints, h.0, h.1, k.0, k.1), omega (arith, ints, h.0, h.1, k.0, k.1))
within_flipped false m n y z h k = (omega (arith, ints, h.0, h.1, k.0, k.1), omega (arith, ints, h.0, h.1, k.0, k.1))

held_switched : (b : Bool) (n : ℕ) (q : Placement) → IsHeld n q → IsHeld n (switched_if b q)
held_switched true n q h = (h.1, h.0)
held_switched false n q h = h

pub held_after : (m n : ℕ) (p q : Placement) → IsHeld m p → IsHeld n q → IsHeld (m + n) (after p q)
held_after m n p q h k =
    let e = held_switched p.swaps n q k in
    (within_flipped p.flips_x m n p.dx _ h.0 e.0, within_flipped p.flips_y m n p.dy _ h.1 e.1)
