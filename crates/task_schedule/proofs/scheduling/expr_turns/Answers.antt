use Rattle.std.proofs.Common.{◌+◌, List, ℕ, length, subst, sym, ap, arith}
use Rattle.rtl_form.specs.declared.rtl.RtlExpr.{RtlExpr}
use Rattle.mp_base.specs.Entries.{IsAt}
use Rattle.mp_base.proofs.Entries.{entry}
use Rattle.rtl_form.specs.Sound.{ExprFits}
use Rattle.task_schedule.specs.Turns.{AreExprTurns, IsExprTurn}
use Rattle.task_schedule.proofs.Turns.{args_below, expr_turns_more}
use Rattle.task_schedule.proofs.scheduling.expr_turns.Goals as goal

pub expr_turn-requires-clause-cell : goal.expr_turn-requires-clause-cell
expr_turn-requires-clause-cell c cell is =
    let at : IsAt c.args.rtl.now.exprs c.loop-expr.expr-index c.expr-item.result =
    subst (λ (xs : List RtlExpr). IsAt xs c.loop-expr.expr-index c.expr-item.result) c.as_slice-expr-items.ensures
    (entry c.as_slice-expr-items.result.now c.loop-expr.expr-index c.loop-expr-test.true c.expr-item.is) in
    let inside = subst (ExprFits c.args.rtl.now c.loop-expr.expr-index) is
    (c.requires.sound.exprs c.loop-expr.expr-index c.expr-item.result at) in
    let count = c.requires.cells in omega (arith, inside, count)

pub expr_turn-requires-clause-args : goal.expr_turn-requires-clause-args
expr_turn-requires-clause-args c op k args is i d l =
    let at : IsAt c.args.rtl.now.exprs c.loop-expr.expr-index c.expr-item.result =
    subst (λ (xs : List RtlExpr). IsAt xs c.loop-expr.expr-index c.expr-item.result) c.as_slice-expr-items.ensures
    (entry c.as_slice-expr-items.result.now c.loop-expr.expr-index c.loop-expr-test.true c.expr-item.is) in
    let b = args_below c.args.rtl.now c.requires.sound c.loop-expr.expr-index c.expr-item.result at op k args is i d
    l in
    let n = c.loop-expr.invariant.count in
    let s = ap length c.as_slice.ensures in omega (arith, b, n, s)

pub loop-expr-preserved : goal.loop-expr-preserved
loop-expr-preserved c =
    let at : IsAt c.args.rtl.now.exprs c.loop-expr.expr-index c.expr-item.result =
    subst (λ (xs : List RtlExpr). IsAt xs c.loop-expr.expr-index c.expr-item.result) c.as_slice-expr-items.ensures
    (entry c.as_slice-expr-items.result.now c.loop-expr.expr-index c.loop-expr-test.true c.expr-item.is) in
    subst (AreExprTurns c.args.rtl.now c.args.cells.now (c.loop-expr.expr-index + 1)) (sym c.in_ok-push.ensures.ok)
    (expr_turns_more c.args.rtl.now c.requires.sound c.args.cells.now c.loop-expr.expr-index c.expr_turn.result
    c.expr-item.result
    c.loop-expr.turns at c.loop-expr.invariant
    (subst (λ (ts : List ℕ). IsExprTurn c.args.cells.now ts c.expr-item.result c.expr_turn.result) c.as_slice.ensures
    c.expr_turn.ensures))
