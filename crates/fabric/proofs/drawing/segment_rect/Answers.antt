use Rattle.std.proofs.Common.{arith}
use Rattle.fabric.proofs.Low.{row_low}
use Rattle.fabric.proofs.drawing.segment_rect.Goals as goal

pub overflow_add-y : goal.overflow_add-y
overflow_add-y c = let i = c.requires.place in let b = i.below in
    let l = row_low c.args.plan.now c.args.bases.now c.args.s.now.band c.args.s.now.row c.requires.bases i.band
    (omega arith) in omega arith

pub overflow_add-y-2 : goal.overflow_add-y-2
overflow_add-y-2 c = let i = c.requires.place in let b = i.below in
    let l = row_low c.args.plan.now c.args.bases.now c.args.s.now.band c.args.s.now.row c.requires.bases i.band
    (omega arith) in omega arith

pub overflow_add-y-3 : goal.overflow_add-y-3
overflow_add-y-3 c = let i = c.requires.place in let b = i.below in
    let l = row_low c.args.plan.now c.args.bases.now c.args.s.now.band c.args.s.now.row c.requires.bases i.band
    (omega arith) in omega arith
