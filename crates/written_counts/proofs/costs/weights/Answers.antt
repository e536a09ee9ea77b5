use Rattle.std.proofs.Common.{◌∙◌, ◌+◌, ℕ, List, length, ap, sym, subst, arith, get_or}
use Rattle.std.proofs.lemmas.List.{length-map}
use Rattle.mp_base.specs.Entries.{IsAt}
use Rattle.mp_base.proofs.Entries.{entry, within}
use Rattle.mp_written.specs.declared.program.Def.{Def}
use Rattle.mp_written.specs.declared.program.Expr.{Expr}
use Rattle.written_frame.specs.Frame.{frame_expr}
use Rattle.written_counts.specs.Costs.{cost_of}
use Rattle.written_counts.proofs.PieceCosts.{AreFirstCosts, cost_term, cost_more}
use Rattle.written_counts.proofs.costs.weights.Goals as goal

pub bounds-meant-e : goal.bounds-meant-e
bounds-meant-e c =
    let w = c.args.program.now in
    let of = c.requires in
    let a = ap (λ (ns : List ℕ). length ns) c.as_slice-meant.ensures in
    let b = ap (λ (xs : List Expr). length xs) c.as_slice-expr-items.ensures in
    let d = (of.meant).as_many_exprs in
    let e = ap length (of.is).exprs ∙ length-map w.exprs frame_expr in
    let lt = c.loop-e-test.true in
    omega (arith, a, b, d, e, lt)

pub loop-e-preserved : goal.loop-e-preserved
loop-e-preserved c =
    let w = c.args.program.now in
    let e = c.loop-e.e in
    let x = c.expr-item.result in
    let at = subst (λ (xs : List Expr). IsAt xs e x) c.as_slice-expr-items.ensures
    (entry c.as_slice-expr-items.result.now e c.loop-e-test.true c.expr-item.is) in
    let is = c.cost.ensures
    ∙ ap (λ (ds : List Def). cost_of ds (get_or c.as_slice-meant.result.now e 0) x.kind) c.as_slice-defs.ensures
    ∙ ap (λ ns. cost_of w.defs (get_or ns e 0) x.kind) c.as_slice-meant.ensures
    ∙ cost_term w c.args.names.now c.requires e x at in
    subst (AreFirstCosts w (e + 1)) (sym c.in_ok-push.ensures.ok)
    (cost_more w e x c.cost.result c.loop-e.costs at is c.loop-e.invariant)

pub returns : goal.returns
returns c =
    let w = c.args.program.now in
    let le = c.loop-e-test.false in
    let end = c.loop-e.auto.e-end in
    let all = ap (λ (xs : List Expr). length xs) c.as_slice-expr-items.ensures in
    let size = c.loop-e.invariant.size in
    record {
      size = omega (arith, le, end, all, size);
      each = λ d x at. c.loop-e.invariant.each d x (let lt = within w.exprs d at in omega (arith, lt, le, end, all)) at;
    }
