use Rattle.std.proofs.Common.{get_or}
use Rattle.rtl_form.specs.declared.rtl.RtlExpr.TheVariants.{Apply}
use Rattle.datapath_making.specs.Steps.{IsBitMade, IsStep}
use Rattle.datapath_sharing.specs.Sharing.{IsShared}
use Rattle.datapath_sharing.proofs.Results.{done_two}
use Rattle.datapath_sharing.proofs.Shares.{lift_stays, plain_shared}
use Rattle.datapath_sharing.proofs.operators.add_lifted.Goals as goal

pub returns-in-Bit-clause-shared : goal.returns-in-Bit-clause-shared
returns-in-Bit-clause-shared c =
    let m = c.args.making.now in
    let new = c.add_bit.new.making in
    let b = c.args.built.now in
    let e = c.args.expr in
    let args = c.args.args.now in
    done_two (IsStep 1 1 m new) (IsBitMade e c.args.index (get_or args 0 0) m new)
    (IsShared e (Apply c.args.op c.args.index args) b b m new) c.add_bit.result
    (λ step made. plain_shared e c.args.op c.args.index args b m new c.requires.built
    (lift_stays m new made.lift step.grows.names made.words made.lifts) made.slices c.requires.bit
    (λ takes ne. ne c.in-Bit.is))
    c.add_bit.ensures.step c.add_bit.ensures.bit
