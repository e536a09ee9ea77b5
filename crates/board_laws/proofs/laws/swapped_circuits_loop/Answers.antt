use Rattle.board_laws.proofs.Chips.{swapped_circuits_loop}
use Rattle.board_laws.proofs.laws.swapped_circuits_loop.Goals as goal

pub returns : goal.returns
returns c = swapped_circuits_loop
