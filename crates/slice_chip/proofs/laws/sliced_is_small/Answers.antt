use Rattle.slice_chip.proofs.SlicedCounts as proofs
use Rattle.slice_chip.proofs.laws.sliced_is_small.Goals as goal

pub returns : goal.returns
returns c = proofs.sliced_is_small
