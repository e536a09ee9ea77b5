use Rattle.board_run.proofs.Boards.{swapped_boards_run}
use Rattle.board_run.proofs.laws.swapped_boards_run.Goals as goal

pub returns : goal.returns
returns c = swapped_boards_run c.inputs_fit.ensures c.circuits_run.ensures.exist
