use Rattle.fabric_laws.proofs.Network.{fabric_draws, fabric_is}
use Rattle.fabric_laws.proofs.laws.fabric_draws_its_switches.Goals as goal

pub returns-clause-labelled : goal.returns-clause-labelled
returns-clause-labelled c = fabric_draws c.rectangles_are_joined.ensures

pub returns-clause-same : goal.returns-clause-same
returns-clause-same c = fabric_is c.rectangles_are_joined.ensures
