-- Rectangle by rectangle.
use Rattle.std.proofs.Common.{refl, sym, subst, take, get_or}
use Rattle.std.specs.Prelude.{All}
use Rattle.std.proofs.lemmas.List.{take_all, take_more}
use Rattle.std.proofs.lemmas.List.Elements.{All-push}
use Rattle.rule_edges.specs.Edges.{FitsIn}
use Rattle.rule_edges.proofs.Having.{no_rect}
use Rattle.rule_edges.proofs.grid.is_on_grid.Goals as goal

pub loop-shape-preserved : goal.loop-shape-preserved
loop-shape-preserved c =
    let n = c.loop-shape.shape-index in
    let all = c.args.shapes.now in
    subst (All (FitsIn c.args.layer)) (sym (take_more all n no_rect c.loop-shape-test.true))
    (All-push (FitsIn c.args.layer) (take n all) (get_or all n no_rect) c.loop-shape.invariant (c.if-not-fits.ensures refl))

pub returns : goal.returns
returns c = λ e.
    subst (All (FitsIn c.args.layer)) (take_all c.loop-shape.shape-index c.args.shapes.now c.loop-shape-test.false)
    c.loop-shape.invariant
