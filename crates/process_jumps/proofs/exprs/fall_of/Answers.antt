use Rattle.std.proofs.Common.{◌<◌, length, arith}
use Rattle.std.proofs.lemmas.Bool.Decides.{nat_tests}
use Rattle.std.proofs.lemmas.Result.{IfOk-weaker}
use Rattle.mp_base.specs.declared.op.Op.TheVariants.{And}
use Rattle.rtl_form.specs.declared.rtl.RtlExpr.TheVariants.{Apply}
use Rattle.process_jumps.specs.Growth.{IsPut, IsFallMade}
use Rattle.process_jumps.proofs.Growing.{fall_put, not_in}
use Rattle.process_jumps.proofs.exprs.fall_of.Goals as goal

pub returns : goal.returns
returns c =
    let ms = c.args.moves.now in
    let some : 0 < length ms = grind (arith, nat_tests) in
    IfOk-weaker c.put.result (IsPut c.with_negations.new.exprs c.put.new.exprs (Apply And 0 c.in_ok-args.args))
    (IsFallMade c.args.exprs.now c.put.new.exprs c.args.enable ms)
    (λ e put. fall_put c.args.exprs.now c.with_negations.new.exprs c.put.new.exprs c.args.enable e ms c.in_ok-args.args
    (not_in c.contains.result c.args.enable ms c.contains.ensures.cases c.if-contains.false) some c.in_ok-args.ensures
    put)
    c.put.ensures
