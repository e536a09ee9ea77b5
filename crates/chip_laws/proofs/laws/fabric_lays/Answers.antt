use Rattle.chip_laws.proofs.Fabrics as proofs
use Rattle.chip_laws.proofs.laws.fabric_lays.Goals as goal

pub returns : goal.returns
returns c = proofs.fabric_lays c.fabric_draws_its_switches.ensures.labelled
