use Rattle.std.proofs.Common.{arith}
use Rattle.fabric.proofs.Low.{row_low}
use Rattle.fabric.proofs.places.row_key.Goals as goal

pub overflow_mul-height : goal.overflow_mul-height
overflow_mul-height c =
    let low = row_low c.args.plan.now c.args.bases.now c.args.band c.args.row c.requires.bases c.requires.band
    c.requires.row in
    omega arith

pub overflow_add-height : goal.overflow_add-height
overflow_add-height c =
    let low = row_low c.args.plan.now c.args.bases.now c.args.band c.args.row c.requires.bases c.requires.band
    c.requires.row in
    omega arith
