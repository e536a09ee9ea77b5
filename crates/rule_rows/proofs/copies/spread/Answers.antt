-- Rectangle by rectangle.
use Rattle.std.proofs.Common.{◌∙◌, ap, sym, subst, arith, rules, [], ◌∷◌, ◌++◌, take, get_or, ◌+◌, List}
use Rattle.std.proofs.lemmas.Int.{ints}
use Rattle.std.proofs.lemmas.List.{take_all, take_more}
use Rattle.std.specs.Prelude.{ℤ}
use Rattle.lam_geom.specs.declared.rect.Rect.{Rect}
use Rattle.lam_geom.specs.Squares.{Covers, covered}
use Rattle.lam_geom.specs.contracts.layer.Layer.{the_type}
use denote.Enum.Bare.{same_true, same_false}
use Rattle.rule_rows.specs.Copies.{AreSpread}
use Rattle.rule_rows.proofs.Bounds.{is_less, is_not_less, no_rect}
use Rattle.rule_rows.proofs.Spreading.{spread_none, spread_passed, spread_added}
use Rattle.rule_rows.proofs.copies.spread.Goals as goal
use Rattle.rule_rows.proofs.copies.spread.Goals.{then-eq+then-shape+then-shape-2+in_ok-push, else-eq}
use Rattle.rule_rows.proofs.copies.spread.Goals.{else-eq-via-then-eq+then-shape+else-shape-2}
use Rattle.rule_rows.proofs.copies.spread.Goals.{else-eq-via-then-eq+else-shape, else-eq-via-else-eq}

pub loop-shape-init : goal.loop-shape-init
loop-shape-init c = spread_none c.args.from c.args.to c.args.reach c.args.drawing.now

pub loop-shape-preserved : goal.loop-shape-preserved
loop-shape-preserved c =
    let n = c.loop-shape.shape-index in
    let all = c.args.shapes.now in
    let xs = take n all in
    let r = get_or all n no_rect in
    let b = c.requires.bounded n no_rect c.loop-shape-test.true in
    let more = sym (take_more all n no_rect c.loop-shape-test.true) in
    let drawn = λ (now : List Rect). subst
    (λ ys. AreSpread (covered ys c.args.from) c.args.to c.args.reach c.args.drawing.now now) more in
    let passed = λ (none : (x y : ℤ) → ¬ Covers r c.args.from x y).
    spread_passed c.args.from c.args.to c.args.reach c.args.drawing.now xs r c.loop-shape.drawing
    c.loop-shape.invariant none in
    elim c.if-eq.branch [
      | then-eq+then-shape+then-shape-2+in_ok-push w ↦
          drawn c.if-eq.drawing (spread_added c.args.from c.args.to c.args.reach c.args.drawing.now xs r
          c.loop-shape.drawing c.if-eq.drawing c.loop-shape.invariant c.requires.ordered
          (same_true the_type (search rules) r.layer c.args.from (sym c.eq.ensures ∙ w.if-eq.true))
          (is_less r.x0 r.x1 b.x0 b.x1 w.if-shape.true)
          (is_less r.y0 r.y1 b.y0 b.y1 w.if-shape-2.true)
          (w.drawing-is ∙ w.in_ok-push.ensures.ok ∙ ap (λ q. c.loop-shape.drawing ++ q ∷ []) w.around.ensures))
      | else-eq w ↦ subst (λ d. AreSpread (covered (take (n + 1) all) c.args.from) c.args.to c.args.reach
          c.args.drawing.now d) (sym w.drawing-is) (drawn c.loop-shape.drawing (elim w.else-eq.branch [
            | else-eq-via-then-eq+then-shape+else-shape-2 v ↦ passed (λ x y h.
                let e = is_not_less r.y0 r.y1 b.y0 b.y1 v.if-shape-2.false in
                let f = h.bottom in let g = h.top in omega (arith, ints))
            | else-eq-via-then-eq+else-shape v ↦ passed (λ x y h.
                let e = is_not_less r.x0 r.x1 b.x0 b.x1 v.if-shape.false in
                let f = h.left in let g = h.right in omega (arith, ints))
            | else-eq-via-else-eq v ↦ passed (λ x y h.
                same_false the_type r.layer c.args.from (sym c.eq.ensures ∙ v.if-eq.false) h.same)
          ]))
    ]

pub returns : goal.returns
returns c =
    subst (λ xs. AreSpread (covered xs c.args.from) c.args.to c.args.reach c.args.drawing.now c.loop-shape.drawing)
    (take_all c.loop-shape.shape-index c.args.shapes.now c.loop-shape-test.false) c.loop-shape.invariant
