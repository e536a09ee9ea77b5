use Rattle.expansion_laws.proofs.Weights.{expansion_weighs}
use Rattle.expansion_laws.proofs.laws.weighs.Goals as goal

pub returns : goal.returns
returns c = expansion_weighs
