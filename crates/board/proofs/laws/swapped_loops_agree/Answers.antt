use Rattle.board.proofs.Loops.{agree_with}
use Rattle.board.proofs.laws.swapped_loops_agree.Goals as goal

pub returns : goal.returns
returns c = agree_with
