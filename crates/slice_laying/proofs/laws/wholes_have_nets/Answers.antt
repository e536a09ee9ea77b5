use Rattle.slice_laying.proofs.WholeNets as proofs
use Rattle.slice_laying.proofs.laws.wholes_have_nets.Goals as goal

pub returns : goal.returns
returns c = proofs.wholes_have_nets
