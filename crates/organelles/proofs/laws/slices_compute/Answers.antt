use Rattle.organelles.proofs.Operators.{operators_compute}
use Rattle.organelles.proofs.laws.slices_compute.Goals as goal

pub returns : goal.returns
returns c = operators_compute
