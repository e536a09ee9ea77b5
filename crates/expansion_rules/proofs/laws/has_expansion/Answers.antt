use Rattle.expansion_rules.proofs.Kept.{unbroken_expansion}
use Rattle.expansion_rules.proofs.laws.has_expansion.Goals as goal

pub returns : goal.returns
returns c = unbroken_expansion
