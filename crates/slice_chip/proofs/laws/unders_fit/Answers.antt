use Rattle.slice_chip.proofs.UndersFit as proofs
use Rattle.slice_chip.proofs.laws.unders_fit.Goals as goal

pub returns : goal.returns
returns c = proofs.unders_fit
