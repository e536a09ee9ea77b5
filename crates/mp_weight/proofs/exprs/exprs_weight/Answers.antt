use Rattle.std.proofs.Common.{◌≡◌, ℕ, List, length, get_or, take, ap, ◌∙◌, subst, arith, min}
use Rattle.std.specs.List.{sum_by}
use Rattle.mp_base.specs.Entries.{IsAt}
use Rattle.mp_base.proofs.Entries.{entry}
use Rattle.mp_base.proofs.Lists.{take_whole}
use Rattle.mp_program.specs.declared.program.Def.{Def}
use Rattle.mp_program.specs.declared.program.Expr.{Expr}
use Rattle.mp_program.specs.Weight.{expr_weight}
use Rattle.mp_weight.specs.Weighing.{expr_weight_of}
use Rattle.mp_weight.proofs.Capping.{sum_more}
use Rattle.mp_weight.proofs.Terms.{expr_term}
use Rattle.mp_weight.proofs.exprs.exprs_weight.Goals as goal

pub loop-e-init : goal.loop-e-init
loop-e-init c = omega arith

pub bounds-meant-e : goal.bounds-meant-e
bounds-meant-e c =
    omega (
      arith,
      ap (λ (ns : List ℕ). length ns) c.as_slice-meant.ensures,
      ap
          (λ (xs : List Expr). length xs) c.as_slice-expr-items.ensures,
      c.requires.as_many_exprs,
    )

pub loop-e-preserved : goal.loop-e-preserved
loop-e-preserved c =
    let p = c.args.program.now in
    let term : Expr → ℕ = λ e. expr_weight p e.kind in
    let at : IsAt p.exprs c.loop-e.e c.expr-item.result =
    subst (λ (xs : List Expr). IsAt xs c.loop-e.e c.expr-item.result) c.as_slice-expr-items.ensures
    (entry c.as_slice-expr-items.result.now c.loop-e.e c.loop-e-test.true c.expr-item.is) in
    let same : c.expr_weight.result ≡ term (get_or c.as_slice-expr-items.result.now c.loop-e.e c.expr-item.result) =
    c.expr_weight.ensures
    ∙ ap (λ (ds : List Def). expr_weight_of ds
    (get_or c.as_slice-meant.result.now c.loop-e.e 0) c.expr-item.result.kind) c.as_slice-defs.ensures
    ∙ ap (λ ns. expr_weight_of p.defs (get_or ns c.loop-e.e 0) c.expr-item.result.kind) c.as_slice-meant.ensures
    ∙ expr_term p c.args.meanings.now c.loop-e.e c.expr-item.result c.requires at ∙ ap term c.expr-item.is in
    sum_more term c.args.cap c.as_slice-expr-items.result.now c.loop-e.e c.expr-item.result c.loop-e.weight
    c.expr_weight.result c.plus-weight.result c.loop-e-test.true c.loop-e.invariant
    (ap (min c.args.cap) same) c.plus-weight.ensures

pub returns : goal.returns
returns c =
    let term : Expr → ℕ = λ e. expr_weight c.args.program.now e.kind in
    let end : c.loop-e.e ≡ length c.as_slice-expr-items.result.now = omega arith in
    c.loop-e.invariant
    ∙ ap (λ xs. min c.args.cap (sum_by term xs))
    (ap (λ k. take k c.as_slice-expr-items.result.now) end ∙ take_whole c.as_slice-expr-items.result.now
    ∙ c.as_slice-expr-items.ensures)
