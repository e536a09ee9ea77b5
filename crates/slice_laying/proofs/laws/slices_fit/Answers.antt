use Rattle.slice_laying.proofs.SlicesStand as proofs
use Rattle.slice_laying.proofs.laws.slices_fit.Goals as goal

pub returns : goal.returns
returns c = proofs.slices_fit
