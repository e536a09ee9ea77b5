use Rattle.slice_laying.proofs.WholeNarrow as proofs
use Rattle.slice_laying.proofs.laws.wholes_are_narrow.Goals as goal

pub returns : goal.returns
returns c = proofs.wholes_are_narrow
