-- Rectangle by rectangle.
use Rattle.std.proofs.Common.{◌∙◌, ◌++◌, ◌∷◌, [], ap, sym, subst, take, get_or}
use Rattle.std.proofs.lemmas.List.{take_all, take_more}
use Rattle.rule_rows.specs.Gates.{IsTurned}
use Rattle.rule_rows.proofs.Bounds.{no_rect}
use Rattle.rule_rows.proofs.Stretching.{turned_more}
use Rattle.rule_rows.proofs.stretches.turned.Goals as goal

pub loop-shape-preserved : goal.loop-shape-preserved
loop-shape-preserved c =
    let n = c.loop-shape.shape-index in
    let all = c.args.shapes.now in
    let r = get_or all n no_rect in
    subst (λ xs. IsTurned xs c.push.new.self) (sym (take_more all n no_rect c.loop-shape-test.true))
    (turned_more (take n all) c.loop-shape.rects c.push.new.self r c.loop-shape.invariant
    (c.in_ok-push.ensures.ok ∙ ap (λ q. c.loop-shape.rects ++ q ∷ []) c.exchanged.ensures))

pub returns : goal.returns
returns c =
    subst (λ xs. IsTurned xs c.loop-shape.rects)
    (take_all c.loop-shape.shape-index c.args.shapes.now c.loop-shape-test.false) c.loop-shape.invariant
