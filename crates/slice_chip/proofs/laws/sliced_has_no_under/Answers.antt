use Rattle.slice_chip.proofs.NoUnder as proofs
use Rattle.slice_chip.proofs.laws.sliced_has_no_under.Goals as goal

pub returns : goal.returns
returns c = proofs.sliced_has_no_under
