use Rattle.std.proofs.Common.{arith}
use Rattle.fabric.proofs.Low.{mark_low, lift_low}
use Rattle.fabric.proofs.drawing.draw_mark.Goals as goal

pub overflow_mul-y : goal.overflow_mul-y
overflow_mul-y c = let l = (mark_low c.args.plan.now c.args.bases.now c.args.m.now c.requires.bases c.requires.met
    c.requires.place c.requires.room).0 in omega arith

pub overflow_add-y : goal.overflow_add-y
overflow_add-y c = let l = (mark_low c.args.plan.now c.args.bases.now c.args.m.now c.requires.bases c.requires.met
    c.requires.place c.requires.room).0 in omega arith

pub overflow_add-y-2 : goal.overflow_add-y-2
overflow_add-y-2 c =
    let l = (mark_low c.args.plan.now c.args.bases.now c.args.m.now c.requires.bases c.requires.met c.requires.place
    c.requires.room).0 in
    let k = lift_low c.args.plan.now c.args.m.now.tile c.args.m.now.band c.args.m.now.row in
    let e = c.lift.ensures in
    omega arith
