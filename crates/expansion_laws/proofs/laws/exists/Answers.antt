use Rattle.expansion_laws.proofs.Existing.{expansion_exists}
use Rattle.expansion_laws.proofs.laws.exists.Goals as goal

pub returns : goal.returns
returns c = expansion_exists
