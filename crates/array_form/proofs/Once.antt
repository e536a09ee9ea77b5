-- At most one line and one segment of a fabric are at a place.
use Rattle.std.proofs.Common.{◌≡◌, inl, inr, List, get_or, sym, ◌∙◌, ap, subst}
use Rattle.std.proofs.Common.{arith}
use Rattle.std.specs.Prelude.{AllPairs, Contains}
use Rattle.std.proofs.lemmas.Bool.{cases_order}
use Rattle.std.proofs.lemmas.List.{get_or_default}
use Rattle.std.proofs.lemmas.List.Elements.{All-contains}
use Rattle.fabric.specs.declared.thing.Side.{Side}
use Rattle.fabric.specs.declared.thing.Segment.{Segment}
use Rattle.fabric.specs.declared.thing.Line.{Line}
use Rattle.fabric.specs.declared.thing.Mark.{Mark}
use Rattle.fabric.specs.Plan.{Plan, Passes, Crosses, IsFabric, IsSegment, LinesApart, SegmentsApart}
use Rattle.fabric.specs.Switches.{Net, segment, line, LineOf, SegmentOf}

-- of two different members one stands before the other
pub apart_once : {A : Type 0} (R : A → A → Type 0) (xs : List A) → AllPairs R xs → (x y : A) → Contains xs x
    → Contains xs y → (R x y → ⊥) → (R y x → ⊥) → x ≡ y
apart_once R xs apart x y (i, ib, ie) (j, jb, je) first second =
    elim (cases_order i j) [
      | inl e ↦ sym ie ∙ (get_or_default xs i x y ib ∙ (ap (λ k. get_or xs k y) e ∙ je))
      | inr (inl lt) ↦ absurd
          (first (subst (λ a. R a y) (get_or_default xs i y x ib ∙ ie)
          (subst (R (get_or xs i y)) je (apart i j y lt jb))))
      | inr (inr lt) ↦ absurd
          (second (subst (λ a. R a x) (get_or_default xs j x y jb ∙ je)
          (subst (R (get_or xs j x)) ie (apart j i x lt ib))))
    ]

pub line_once : (f : Plan) → IsFabric f → (m : Mark) (side : Side) (n k : Net) → LineOf f m side n
    → LineOf f m side k → n ≡ k
line_once f w m side n k a b = a.is ∙ (ap line same ∙ sym b.is)
  where
    apart : (x y : Line) → Passes x side m.band m.column → Passes y side m.band m.column → LinesApart x y → ⊥
    apart x y p q h = elim (h (p.column ∙ sym q.column) (p.at_side ∙ sym q.at_side)) [
      | inl lt ↦ (let u = p.last in let v = q.first in absurd (omega arith))
      | inr lt ↦ (let u = q.last in let v = p.first in absurd (omega arith))
    ]

    same : a.the_line ≡ b.the_line
    same = apart_once LinesApart f.lines w.lines_apart a.the_line b.the_line a.among b.among
        (apart a.the_line b.the_line a.passes b.passes) (apart b.the_line a.the_line b.passes a.passes)

pub segment_once : (f : Plan) → IsFabric f → (m : Mark) (n k : Net) → SegmentOf f m n → SegmentOf f m k → n ≡ k
segment_once f w m n k a b = a.is ∙ (ap segment same ∙ sym b.is)
  where
    apart : (x y : Segment) → Crosses x m.band m.row m.column → Crosses y m.band m.row m.column → SegmentsApart x y
        → ⊥
    apart x y p q h = elim (h (p.band ∙ sym q.band) (p.row ∙ sym q.row)) [
      | inl lt ↦ (let u = p.last in let v = q.first in absurd (omega arith))
      | inr lt ↦ (let u = q.last in let v = p.first in absurd (omega arith))
    ]

    same : a.the_segment ≡ b.the_segment
    same = apart_once SegmentsApart f.segments w.segments_apart a.the_segment b.the_segment a.among b.among
        (apart a.the_segment b.the_segment a.crosses b.crosses)
        (apart b.the_segment a.the_segment b.crosses a.crosses)

-- no segment is in the row of ground
pub no_segment : (f : Plan) → IsFabric f → (m : Mark) (n : Net) → SegmentOf f m n → m.row ≡ 0 → ⊥
no_segment f w m n a e =
    let h = All-contains (IsSegment f) f.segments a.the_segment w.segments a.among in
    let u = h.row in
    let v = a.crosses.row in
    absurd (omega arith)
