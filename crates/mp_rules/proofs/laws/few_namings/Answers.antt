use Rattle.mp_rules.proofs.Few.{few}
use Rattle.mp_rules.proofs.laws.few_namings.Goals as goal

pub returns : goal.returns
returns c = few
