use Rattle.chip_laws.proofs.Sound as proofs
use Rattle.chip_laws.proofs.laws.labels_fit.Goals as goal

pub returns : goal.returns
returns c = proofs.labels_fit c.labels_name_conductors.ensures
