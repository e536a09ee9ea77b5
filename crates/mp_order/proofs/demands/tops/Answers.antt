use Rattle.std.proofs.Common.{◌≡◌, ◌+◌, ◌-◌, ℕ, List, sym, ◌∙◌, ap, subst, length, replicate, arith, get_or}
use Rattle.std.proofs.lemmas.List.{length-replicate}
use Rattle.mp_program.specs.declared.program.Expr.{Expr}
use Rattle.mp_program.specs.Reads.{mentions, kind_mentions}
use Rattle.std.proofs.Common.{false}
use Rattle.std.specs.List.{list_any}
use Rattle.mp_program.specs.declared.program.ExprKind.{ExprKind}
use Rattle.mp_program.specs.declared.program.ExprKind.TheVariants.{Apply}
use Rattle.mp_program.specs.Sound.{ArgsFit}
use Rattle.mp_program.specs.Names.{is_same}
use Rattle.mp_base.specs.Entries.{IsAt}
use Rattle.mp_base.proofs.Entries.{entry, within}
use Rattle.mp_order.specs.Demands.{AreTops}
use Rattle.mp_order.proofs.Mentions.{Greatest, IsTop, tops_none, tops_more, top_named, top_apply, top_zero, top_as}
use Rattle.mp_order.proofs.Mentions.{mentions_none}
use Rattle.mp_order.proofs.demands.tops.Goals.{in-Named, in-Apply, in_default}
use Rattle.mp_order.proofs.demands.tops.Goals as goal

pub loop-expr-init : goal.loop-expr-init
loop-expr-init c =
    let e : c.in_ok-tops.tops ≡ replicate (length c.as_slice-exprs.result.now) 0 = c.in_ok-tops.ensures in
    let same : length c.as_slice-exprs.result.now ≡ length c.args.program.now.exprs =
    ap (length {A = Expr}) c.as_slice-exprs.ensures in
    let P : ℕ → Type 0 = λ n. AreTops c.args.program.now c.args.weights.now n c.in_ok-tops.tops in (
      subst P (sym same)
          (tops_none c.args.program.now c.args.weights.now c.in_ok-tops.tops
          (ap (length {A = ℕ}) e ∙ length-replicate {A = ℕ} (length c.as_slice-exprs.result.now) 0 ∙ same)),
      omega arith,
    )

pub loop-expr-preserved : goal.loop-expr-preserved
loop-expr-preserved c =
    let A : List Expr → Type 0 = λ xs. IsAt xs (c.loop-expr.expr - 1) c.index-exprs-expr.result in
    let at : IsAt c.args.program.now.exprs (c.loop-expr.expr - 1) c.index-exprs-expr.result =
    subst A c.as_slice-exprs.ensures
    (entry c.as_slice-exprs.result.now (c.loop-expr.expr - 1)
    (omega (arith, c.loop-expr.invariant.1, c.loop-expr-test.true)) c.index-exprs-expr.is) in
    let next : c.loop-expr.expr ≡ (c.loop-expr.expr - 1) + 1 = omega (arith, c.loop-expr-test.true) in
    let same = λ (name : List ℕ). c.mentions.ensures name (c.loop-expr.expr - 1) c.index-exprs-expr.result at in
    let read = ap (λ (x : Expr). x.kind) c.index-exprs-expr.is in
    let top : IsTop c.args.program.now c.args.weights.now
    (λ name. mentions c.args.program.now name (c.loop-expr.expr - 1)) c.match-exprs-expr.top =
    elim c.match-exprs-expr.branch [
      | in-Named w ↦
          top_as c.args.program.now c.args.weights.now
          (λ name. mentions c.args.program.now name (c.loop-expr.expr - 1))
          (λ name. is_same w.in-Named.field-0 name) c.match-exprs-expr.top
          (λ name. same name ∙ ap (λ k. kind_mentions name k (mentions c.args.program.now name)) (read ∙ w.in-Named.is))
          (top_named c.args.program.now c.args.meanings.now c.args.weights.now
          (c.loop-expr.expr - 1) c.index-exprs-expr.result w.in-Named.field-0 c.match-exprs-expr.top
          c.requires.meant c.requires.own c.requires.driven at (read ∙ w.in-Named.is)
          (w.top-is ∙ w.read-top.ensures
          ∙ ap (λ i. get_or c.args.weights.now i 0)
          (w.read.ensures ∙ ap (λ xs. get_or xs (c.loop-expr.expr - 1) 0) w.as_slice.ensures)))
      | in-Apply w ↦
          top_as c.args.program.now c.args.weights.now
          (λ name. mentions c.args.program.now name (c.loop-expr.expr - 1))
          (λ name. list_any (mentions c.args.program.now name) w.in-Apply.args) c.match-exprs-expr.top
          (λ name. same name ∙ ap (λ k. kind_mentions name k (mentions c.args.program.now name)) (read ∙ w.in-Apply.is))
          (top_apply c.args.program.now c.args.weights.now c.loop-expr.tops c.loop-expr.expr
          (c.loop-expr.expr - 1) w.in-Apply.args c.match-exprs-expr.top c.loop-expr.invariant.0 next
          (let F : ExprKind → Type 0 = λ k. ArgsFit (c.loop-expr.expr - 1) (length c.args.program.now.exprs) k in
          let f : F (Apply w.in-Apply.op w.in-Apply.index w.in-Apply.args) =
          subst F (read ∙ w.in-Apply.is)
          (c.sound.ensures.exprs (c.loop-expr.expr - 1) c.index-exprs-expr.result at) in f.1)
          (let N : List ℕ → Type 0 = λ xs. Greatest xs w.in-Apply.args c.match-exprs-expr.top in
          let I : List ℕ → Type 0 = λ xs. Greatest w.as_slice-in-Apply.result.now xs c.match-exprs-expr.top in
          let R : ℕ → Type 0 = λ r. Greatest w.as_slice-in-Apply.result.now w.as_slice-in-Apply-2.result.now r in
          subst N w.as_slice-in-Apply.ensures
          (subst I w.as_slice-in-Apply-2.ensures
          (subst R (sym w.top-is) (w.greatest-top.ensures.bound, w.greatest-top.ensures.met)))))
      | in_default w ↦
          top_as c.args.program.now c.args.weights.now
          (λ name. mentions c.args.program.now name (c.loop-expr.expr - 1)) (λ name. false) c.match-exprs-expr.top
          (λ name. same name
          ∙ mentions_none c.index-exprs-expr.result.kind name (mentions c.args.program.now name)
          (λ x e. w.in_default.not-Named x (sym read ∙ e))
          (λ op k args e. w.in_default.not-Apply op k args (sym read ∙ e)))
          (top_zero c.args.program.now c.args.weights.now c.match-exprs-expr.top w.top-is)
    ] in
    let P : List ℕ → Type 0 = λ xs. AreTops c.args.program.now c.args.weights.now (c.loop-expr.expr - 1) xs in (
      subst P (sym c.put.ensures)
          (tops_more c.args.program.now c.args.weights.now c.loop-expr.tops c.loop-expr.expr
          (c.loop-expr.expr - 1) c.match-exprs-expr.top c.loop-expr.invariant.0 next
          (within c.args.program.now.exprs (c.loop-expr.expr - 1) at) top),
      omega (arith, c.loop-expr.invariant.1),
    )
