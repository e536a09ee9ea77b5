use Rattle.board_laws.proofs.Chips.{swapped_chips_loop}
use Rattle.board_laws.proofs.laws.swapped_chips_loop.Goals as goal

pub returns : goal.returns
returns c = swapped_chips_loop c.swapped_loops_agree.ensures c.inputs_fit.ensures
