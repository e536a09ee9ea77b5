use Rattle.drawn_nets.proofs.Clocks.{circuits_hold}
use Rattle.drawn_nets.proofs.laws.circuits_are_drawn.Goals as goal

pub returns : goal.returns
returns c = circuits_hold c.solutions_are_drawn.ensures
