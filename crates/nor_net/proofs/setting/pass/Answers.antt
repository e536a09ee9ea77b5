use Rattle.std.proofs.Common.{◌+◌, refl, sym, subst}
use Rattle.nor_net.specs.Passing.{Passed, Renewed}
use Rattle.nor_net.proofs.Passing.{passed_changed, passed_kept}
use Rattle.nor_net.proofs.setting.pass.Goals as goal
use Rattle.nor_net.proofs.setting.pass.Goals.{then-renew_at, else-renew_at}

pub loop-number-preserved : goal.loop-number-preserved
loop-number-preserved c =
    let r = c.renew_at.ensures in
    elim c.if-renew_at.branch [
      | then-renew_at w ↦
          subst (Passed c.args.net.now c.args.phase
          (c.loop-number.number + 1) c.args.values.now c.renew_at.new.values) (sym w.changed-is)
          (passed_changed c.args.net.now c.args.phase c.loop-number.number
          (c.loop-number.number + 1) c.args.values.now c.loop-number.values c.renew_at.new.values
          c.loop-number.changed c.loop-number.invariant
          (subst (Renewed c.args.net.now c.args.phase c.loop-number.number c.loop-number.values c.renew_at.new.values)
          w.if-renew_at.true r) refl)
      | else-renew_at w ↦
          subst (Passed c.args.net.now c.args.phase
          (c.loop-number.number + 1) c.args.values.now c.renew_at.new.values) (sym w.changed-is)
          (passed_kept c.args.net.now c.args.phase c.loop-number.number
          (c.loop-number.number + 1) c.args.values.now c.loop-number.values c.renew_at.new.values
          c.loop-number.changed c.loop-number.invariant
          (subst (Renewed c.args.net.now c.args.phase c.loop-number.number c.loop-number.values c.renew_at.new.values)
          w.if-renew_at.false r) refl)
    ]
