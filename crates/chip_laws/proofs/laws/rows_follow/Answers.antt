use Rattle.chip_laws.proofs.Rows as proofs
use Rattle.chip_laws.proofs.laws.rows_follow.Goals as goal

pub returns : goal.returns
returns c = proofs.rows_follow c.circuits_are_drawn.ensures
