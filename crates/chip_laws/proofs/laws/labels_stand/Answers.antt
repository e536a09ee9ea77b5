use Rattle.chip_laws.proofs.Labels as proofs
use Rattle.chip_laws.proofs.laws.labels_stand.Goals as goal

pub returns : goal.returns
returns c = proofs.labels_stand
