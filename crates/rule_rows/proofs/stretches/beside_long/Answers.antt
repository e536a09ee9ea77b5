-- Rows, or columns of the drawing with x and y exchanged.
use Rattle.std.proofs.Common.{ap, sym, subst, List, inl, inr}
use Rattle.std.proofs.lemmas.Result.{IfOk-weaker}
use Rattle.lam_geom.specs.declared.rect.Rect.{Rect}
use Rattle.lam_geom.specs.Rules.Way.{right}
use Rattle.lam_geom.specs.Squares.{covered}
use Rattle.rule_rows.specs.Channels.{IsChannel}
use Rattle.rule_rows.specs.Gates.{AreLong, IsBeside, IsTurned}
use Rattle.rule_rows.specs.Sides.{way_of}
use Rattle.rule_rows.proofs.Besides.{column_long, downward}
use Rattle.rule_rows.proofs.stretches.beside_long.Goals as goal

pub returns : goal.returns
returns c =
    let alone = c.in_ok-alone.alone in
    let is = IsBeside (covered c.args.shapes.now) (way_of c.args.side) in
    let columns = c.in_ok-columns-in-Above.columns in
    let found = c.in_ok-found-in-Above.found in
    let t = subst (λ d. IsTurned d columns) c.as_slice-in-Above.ensures c.in_ok-columns-in-Above.ensures in
    let a = subst (λ d. AreLong right (IsChannel d) found) c.as_slice-in-Above-2.ensures
    c.in_ok-found-in-Above.ensures in
    let long = λ (rects : List Rect) (h : IsTurned c.as_slice-in-Above-3.result.now rects).
    column_long alone rects is c.in_ok-alone.ensures columns found t a
    (subst (λ d. IsTurned d rects) c.as_slice-in-Above-3.ensures h) in
    IfOk-weaker c.turned-in-Above.result (IsTurned c.as_slice-in-Above-3.result.now) (AreLong (way_of c.args.side) is)
    (λ rects h. elim c.in-Above.is [
      | inl e ↦ subst (λ w. AreLong w is rects) (sym (ap way_of e)) (long rects h)
      | inr e ↦ subst (λ w. AreLong w is rects) (sym (ap way_of e)) (downward is rects (long rects h))
    ]) c.turned-in-Above.ensures
