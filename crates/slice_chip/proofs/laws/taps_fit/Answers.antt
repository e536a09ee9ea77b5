use Rattle.slice_chip.proofs.TapsStand as proofs
use Rattle.slice_chip.proofs.laws.taps_fit.Goals as goal

pub returns : goal.returns
returns c = proofs.taps_fit
