use Rattle.slice_chip.proofs.SlicedDraws as proofs
use Rattle.slice_chip.proofs.laws.sliced_chips_draw.Goals as goal

pub returns : goal.returns
returns c = proofs.sliced_chips_draw
