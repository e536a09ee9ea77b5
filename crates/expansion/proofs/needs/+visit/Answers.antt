use Rattle.std.proofs.Common.{ℕ, arith, get_or, refl, subst}
use Rattle.std.specs.Prelude.{Contains}
use Rattle.mp_base.proofs.Entries.{entry}
use Rattle.expansion.proofs.Finding.{number_in, operand_behind}
use Rattle.expansion.proofs.needs.+visit.Goals as goal

pub visit-requires : goal.visit-requires
visit-requires t c =
    let w = c.args.program.now in
    let os = c.operands-operands.result.now in
    let a : ℕ = get_or os c.loop-i.i 0 in
    let x = c.at.result.now in
    let there = entry w.exprs c.args.expr c.requires.inside c.at.ensures in
    let (above, below) = operand_behind w c.args.expr x.kind a (x, there, refl)
    (subst (λ us. Contains us a) c.operands-operands.ensures (number_in os c.loop-i.i c.loop-i-test.true)) in
    (omega (arith, above, below), (below, c.requires.many))
