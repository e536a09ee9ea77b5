use Rattle.board_laws.proofs.Chips.{chips_loop}
use Rattle.board_laws.proofs.laws.chips_loop.Goals as goal

pub returns : goal.returns
returns c = chips_loop c.swapped_loops_agree.ensures c.inputs_fit.ensures
