use Rattle.drawn_nets.proofs.Lawful.{law_holds}
use Rattle.drawn_nets.proofs.laws.solutions_are_drawn.Goals as goal

pub returns : goal.returns
returns c = law_holds c.nodes_are_given.ensures.reach
