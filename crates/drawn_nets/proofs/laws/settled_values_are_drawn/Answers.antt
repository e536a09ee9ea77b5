use Rattle.drawn_nets.proofs.Least.{settled_holds}
use Rattle.drawn_nets.proofs.laws.settled_values_are_drawn.Goals as goal

pub returns : goal.returns
returns c = settled_holds c.nodes_are_given.ensures.reach
