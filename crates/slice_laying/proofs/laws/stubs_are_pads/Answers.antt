use Rattle.slice_laying.proofs.WholeNarrow as proofs
use Rattle.slice_laying.proofs.laws.stubs_are_pads.Goals as goal

pub returns : goal.returns
returns c = proofs.stubs_are_pads
