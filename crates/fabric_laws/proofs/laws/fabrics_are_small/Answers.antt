use Rattle.fabric_laws.proofs.Small as proofs
use Rattle.fabric_laws.proofs.laws.fabrics_are_small.Goals as goal

pub returns : goal.returns
returns c = proofs.fabrics_are_small c.fabric_draws_its_switches.ensures.labelled
