use Rattle.slice_chip.proofs.SlicedCounts as proofs
use Rattle.slice_chip.proofs.laws.rectangles_are_few.Goals as goal

pub returns : goal.returns
returns c = proofs.rectangles_are_few
