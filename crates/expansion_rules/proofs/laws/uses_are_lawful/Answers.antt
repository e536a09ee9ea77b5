use Rattle.expansion_rules.proofs.LawfulUses.{uses_are_lawful}
use Rattle.expansion_rules.proofs.laws.uses_are_lawful.Goals as goal

pub returns : goal.returns
returns c = uses_are_lawful
