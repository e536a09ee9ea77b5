use Rattle.slice_chip.proofs.ColumnsUsed as proofs
use Rattle.slice_chip.proofs.laws.columns_are_used.Goals as goal

pub returns : goal.returns
returns c = proofs.columns_are_used
