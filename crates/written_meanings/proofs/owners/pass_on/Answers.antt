use Rattle.std.proofs.Common.{◌+◌, sym, subst, take, refl, get_or, arith, ◌<◌, length}
use Rattle.written_meanings.specs.Owners.{IsPassedOn}
use Rattle.written_meanings.proofs.BodyOwners.{passed_more}
use Rattle.written_meanings.proofs.owners.pass_on.Goals as goal

pub loop-expr-preserved : goal.loop-expr-preserved
loop-expr-preserved c =
    let i = c.loop-expr.expr-index in
    let xs = c.args.exprs.now in
    let size = c.loop-expr.invariant.size in
    let low = c.requires i 0 c.loop-expr-test.true in
    let small : get_or xs i 0 < length c.loop-expr.owners = omega (arith, size, low) in
    subst (IsPassedOn c.args.owner (take (i + 1) xs) c.args.owners.now) (sym c.set.ensures)
    (passed_more c.args.owner xs i (get_or xs i 0) c.args.owners.now c.loop-expr.owners c.loop-expr-test.true refl small
    c.loop-expr.invariant)
