-- The four branches of the tests of spans.
use Rattle.lam_geom.proofs.Touching.{both_overlap, rows_meet, columns_meet, no_overlap}
use Rattle.lam_geom.proofs.rect.Rect.touches.Goals as goal

pub returns-then-rows_overlap : goal.returns-then-rows_overlap
returns-then-rows_overlap c =
    both_overlap c.args.self.now c.args.other.now c.columns_overlap.result c.rows_overlap.result c.rows_overlap.result
    c.columns_overlap.ensures
    c.if-columns_overlap.true c.rows_overlap.ensures c.if-rows_overlap.true

pub returns-else-rows_overlap : goal.returns-else-rows_overlap
returns-else-rows_overlap c =
    rows_meet c.args.self.now c.args.other.now c.columns_overlap.result c.rows_overlap.result c.rows_meet.result
    c.columns_overlap.ensures
    c.if-columns_overlap.true c.rows_overlap.ensures c.if-rows_overlap.false c.rows_meet.ensures

pub returns-then-rows_overlap-2 : goal.returns-then-rows_overlap-2
returns-then-rows_overlap-2 c =
    columns_meet c.args.self.now c.args.other.now c.columns_overlap.result c.rows_overlap-else-columns_overlap.result
    c.columns_meet.result
    c.columns_overlap.ensures c.if-columns_overlap.false c.rows_overlap-else-columns_overlap.ensures
    c.if-rows_overlap-2.true c.columns_meet.ensures

pub returns-else-rows_overlap-2 : goal.returns-else-rows_overlap-2
returns-else-rows_overlap-2 c =
    no_overlap c.args.self.now c.args.other.now c.columns_overlap.result c.rows_overlap-else-columns_overlap.result
    c.rows_overlap-else-columns_overlap.result c.columns_overlap.ensures c.if-columns_overlap.false
    c.rows_overlap-else-columns_overlap.ensures
    c.if-rows_overlap-2.false
