use Rattle.slice_laying.proofs.WholePaths as proofs
use Rattle.slice_laying.proofs.laws.paths_are_placeable.Goals as goal

pub returns : goal.returns
returns c = proofs.paths_are_placeable
