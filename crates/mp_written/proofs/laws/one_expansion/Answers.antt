use Rattle.mp_written.proofs.OneExpansion.{one_expansion}
use Rattle.mp_written.proofs.laws.one_expansion.Goals as goal

pub returns : goal.returns
returns c = one_expansion
