-- Rectangle by rectangle.
use Rattle.std.proofs.Common.{◌≡◌, sym, ◌∙◌, take, ◌+◌}
use Rattle.region_sweep.proofs.Gridding.{no_rect, drawn_more, drawn_same, drawn_on, same_drawn}
use Rattle.region_sweep.proofs.grid.Grid.new.Goals as goal
use Rattle.region_sweep.proofs.grid.Grid.new.Goals.{then-uses+in_ok-draw, else-uses}

pub loop-shape-preserved : goal.loop-shape-preserved
loop-shape-preserved c =
    let shapes = c.args.shapes.now in
    let i = c.loop-shape.shape-index in
    elim c.if-uses.branch [
      | then-uses+in_ok-draw w ↦
          same_drawn _ _ _ _ c.args.mask (take (i + 1) shapes) (w.xs-is ∙ w.in_ok-draw.ensures.columns)
          (w.ys-is ∙ w.in_ok-draw.ensures.rows)
          (drawn_more c.loop-shape.xs c.loop-shape.ys c.args.mask shapes i no_rect c.loop-shape-test.true
          c.loop-shape.invariant)
      | else-uses w ↦
          same_drawn _ _ _ _ c.args.mask (take (i + 1) shapes) w.xs-is w.ys-is
          (drawn_same c.loop-shape.xs c.loop-shape.ys c.args.mask shapes i no_rect c.loop-shape-test.true
          (sym c.uses.ensures ∙ w.if-uses.false) c.loop-shape.invariant)
    ]

pub returns : goal.returns
returns c =
    let e : c.into_vec.result.items ≡ c.loop-shape.xs = c.into_vec.ensures in
    let f : c.into_vec-2.result.items ≡ c.loop-shape.ys = c.into_vec-2.ensures in
    drawn_on c.into_vec.result.items c.into_vec-2.result.items _ _ c.args.mask c.args.shapes.now
    c.loop-shape.shape-index c.loop-shape-test.false
    c.in_ok-columns.ensures c.in_ok-rows.ensures
    (rw (e, f) c.loop-shape.invariant)
