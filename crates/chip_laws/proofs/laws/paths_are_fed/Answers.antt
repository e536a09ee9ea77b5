use Rattle.chip_laws.proofs.PathFed as proofs
use Rattle.chip_laws.proofs.laws.paths_are_fed.Goals as goal

pub returns : goal.returns
returns c = proofs.paths_are_fed
