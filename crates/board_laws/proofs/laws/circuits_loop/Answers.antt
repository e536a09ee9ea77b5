use Rattle.board_laws.proofs.Chips.{circuits_loop}
use Rattle.board_laws.proofs.laws.circuits_loop.Goals as goal

pub returns : goal.returns
returns c = circuits_loop
