use Rattle.std.proofs.Common.{refl, subst, sym, None, get_or}
use Rattle.std.specs.Prelude.{All}
use Rattle.std.proofs.lemmas.Option.{slice_get-get_or}
use Rattle.rtl_form.specs.declared.rtl.RtlExpr.TheVariants.{Apply, Cell}
use Rattle.bit_gates.specs.Exprs.{IsExprMade, IsExprReady}
use Rattle.bit_gates.specs.Rails.{IsNamed}
use Rattle.bit_gates.proofs.exprs.lower_expr.Goals as goal

pub lower_operator-requires-clause-named : goal.lower_operator-requires-clause-named
lower_operator-requires-clause-named c bits =
    let r : IsExprReady c.args.cells.now c.args.exprs.now (Apply c.in-Apply.op c.in-Apply.index c.in-Apply.args) =
    subst (IsExprReady c.args.cells.now c.args.exprs.now) c.in-Apply.is c.requires.ready in
    subst (All (IsNamed c.args.exprs.now)) (sym c.as_slice.ensures) (r.1 bits)

pub returns-in-Cell : goal.returns-in-Cell
returns-in-Cell c =
    let r : IsExprReady c.args.cells.now c.args.exprs.now (Cell c.in-Cell.cell) =
    subst (IsExprReady c.args.cells.now c.args.exprs.now) c.in-Cell.is c.requires.ready in
    subst (λ x. IsExprMade c.args.cells.now c.args.exprs.now x c.args.net.now c.args.net.now
    (get_or c.args.cells.now c.in-Cell.cell None)) (sym c.in-Cell.is)
    (slice_get-get_or c.args.cells.now c.in-Cell.cell None r, refl)
