use Rattle.std.proofs.Common.{◌≡◌, ◌∙◌, ◌<◌, ◌+◌, List, length, ap, sym, subst, arith, get_or, take}
use Rattle.std.specs.List.{sum_by}
use Rattle.std.specs.Option.{SomeIff}
use Rattle.mp_base.specs.Entries.{IsAt}
use Rattle.mp_base.proofs.Entries.{entry}
use Rattle.mp_base.proofs.Lists.{take_whole}
use Rattle.mp_program.specs.declared.program.Def.{Def}
use Rattle.mp_program.specs.declared.program.Expr.{Expr}
use Rattle.mp_program.specs.Weight.{expr_weight}
use Rattle.written_counts.specs.Costs.{plain_cost}
use Rattle.written_counts.proofs.FrameWeights.{plain_term, sum_more}
use Rattle.written_counts.proofs.frames.exprs_weight.Goals as goal

pub loop-e-preserved : goal.loop-e-preserved
loop-e-preserved c =
    let p = c.args.program.now in
    let e = c.loop-e.e in
    let x = c.expr-item.result in
    let at = subst (λ (xs : List Expr). IsAt xs e x) c.as_slice-expr-items.ensures
    (entry c.as_slice-expr-items.result.now e c.loop-e-test.true c.expr-item.is) in
    let is = c.cost.ensures
    ∙ ap (λ (ds : List Def). plain_cost ds (get_or c.as_slice-meant.result.now e 0) x.kind) c.as_slice-defs.ensures
    ∙ ap (λ ns. plain_cost p.defs (get_or ns e 0) x.kind) c.as_slice-meant.ensures
    ∙ plain_term p c.args.meanings.now e x c.requires at in
    let more = sum_more (λ (y : Expr). expr_weight p y.kind) p.exprs e x at in
    let before = c.loop-e.invariant in
    let two = subst (λ o. SomeIff o (c.loop-e.weight + c.cost.result < 18446744073709551616)
    (c.loop-e.weight + c.cost.result))
    c.in_ok-weight.ensures.ok_part c.checked_add.ensures in
    two.1 ∙ ap (λ n. n + c.cost.result) before ∙ ap (λ n. sum_by (λ (y : Expr). expr_weight p y.kind)
    (take e p.exprs) + n) is
    ∙ sym more

pub returns : goal.returns
returns c =
    let p = c.args.program.now in
    let le = c.loop-e-test.false in
    let end = c.loop-e.auto.e-end in
    let all = ap (λ (xs : List Expr). length xs) c.as_slice-expr-items.ensures in
    let last : c.loop-e.e ≡ length p.exprs = omega (arith, le, end, all) in
    c.loop-e.invariant
    ∙ ap (sum_by (λ (y : Expr). expr_weight p y.kind)) (ap (λ k. take k p.exprs) last ∙ take_whole p.exprs)
