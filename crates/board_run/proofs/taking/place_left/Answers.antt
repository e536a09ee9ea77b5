use Rattle.std.proofs.Common.{arith}
use Rattle.board_run.proofs.Left.{place_at}
use Rattle.board_run.proofs.taking.place_left.Goals as goal

pub overflow_sub-result : goal.overflow_sub-result
overflow_sub-result c =
    let h = (place_at c.args.swaps.now c.args.place c.requires.apart).0 in omega (arith, h, c.puts_before.ensures)
