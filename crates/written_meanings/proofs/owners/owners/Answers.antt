use Rattle.std.proofs.Common.{◌≡◌, ◌∙◌, ◌<◌, List, Option, None, ℕ, ap, subst, subst₂, arith, length, get_or}
use Rattle.mp_base.specs.Entries.{IsAt}
use Rattle.mp_base.proofs.Entries.{entry, some_entry}
use Rattle.std.proofs.lemmas.Option.{get_or_from_slice_get}
use Rattle.mp_written.specs.declared.program.Expr.{Expr}
use Rattle.written_meanings.specs.Owners.{IsPassedOn}
use Rattle.written_meanings.proofs.BodyOwners.{operand_in, passed_on}
use Rattle.written_meanings.proofs.owners.owners.Goals as goal

expr_at : (exprs items : List Expr) (e : ℕ) (x : Expr) → items ≡ exprs → e < length items → x ≡ get_or items e x
    → IsAt exprs e x
expr_at exprs items e x same lt is = subst (λ xs. IsAt xs e x) same (entry items e lt is)

pub pass_on-requires : goal.pass_on-requires
pass_on-requires c k d lt =
    let w = c.args.program.now in
    let x = c.expr-item.result in
    let at = expr_at w.exprs c.as_slice-expr-items.result.now c.loop-e.e x c.as_slice-expr-items.ensures
    c.loop-e-test.true c.expr-item.is in
    let is = c.operands.ensures in
    let size = c.loop-e.invariant.size in
    let low = operand_in w c.loop-e.e x k d at (subst (λ (ys : List ℕ). k < length ys) is lt) in
    let same = ap (λ (ys : List ℕ). get_or ys k d) is in
    omega (arith, low, same, size)

pub loop-e-preserved : goal.loop-e-preserved
loop-e-preserved c =
    let w = c.args.program.now in
    let e = c.loop-e.e in
    let x = c.expr-item.result in
    let at = expr_at w.exprs c.as_slice-expr-items.result.now e x c.as_slice-expr-items.ensures c.loop-e-test.true
    c.expr-item.is in
    let lt = c.loop-e-test.true in
    let size = c.loop-e.invariant.size in
    let all = ap length c.as_slice-expr-items.ensures in
    let (o, here) = some_entry c.loop-e.owners e (omega (arith, lt, size, all)) in
    let is = ap (λ (os : List (Option ℕ)). get_or os e None) c.as_slice.ensures
    ∙ get_or_from_slice_get c.loop-e.owners e o None here in
    passed_on w e x o c.loop-e.owners c.pass_on.new.owners at here c.loop-e.invariant
    (subst₂ (λ p ys. IsPassedOn p ys c.loop-e.owners c.pass_on.new.owners) is c.operands.ensures c.pass_on.ensures)
