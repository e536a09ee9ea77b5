use Rattle.slice_chip.proofs.Grouped as proofs
use Rattle.slice_chip.proofs.laws.sliced_has_groups.Goals as goal

pub returns : goal.returns
returns c = proofs.sliced_has_groups
