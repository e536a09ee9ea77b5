use Rattle.std.proofs.Common.{length, ap, arith}
use Rattle.made_run.proofs.Numbers.{first_shows}
use Rattle.made_run.proofs.summing.first_number.Goals as goal

pub returns-in-len1-up : goal.returns-in-len1-up
returns-in-len1-up c =
    let some = c.in-len1-up.len_at_least in
    let same = ap length c.as_slice.ensures in
    first_shows c.args.pads.now.outputs c.args.outputs.now c.word-item.result
    (rw c.as_slice.ensures at c.word-item.is) (omega (arith, some, same)) c.requires.as_many c.requires.narrow
