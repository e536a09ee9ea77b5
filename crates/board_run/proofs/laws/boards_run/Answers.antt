use Rattle.board_run.proofs.Boards.{boards_run}
use Rattle.board_run.proofs.laws.boards_run.Goals as goal

pub returns : goal.returns
returns c = boards_run c.inputs_fit.ensures c.circuits_run.ensures.exist
