use Rattle.chip_laws.proofs.Having as proofs
use Rattle.chip_laws.proofs.laws.circuits_have_pads.Goals as goal

pub returns : goal.returns
returns c = proofs.circuits_have_pads
