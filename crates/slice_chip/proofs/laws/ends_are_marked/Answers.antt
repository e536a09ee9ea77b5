use Rattle.slice_chip.proofs.EndsMarked as proofs
use Rattle.slice_chip.proofs.laws.ends_are_marked.Goals as goal

pub returns : goal.returns
returns c = proofs.ends_are_marked
