use Rattle.slice_chip.proofs.InOrder as proofs
use Rattle.slice_chip.proofs.laws.segments_in_order.Goals as goal

pub returns : goal.returns
returns c = proofs.segments_in_order
