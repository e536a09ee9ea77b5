use Rattle.expansion_rules.proofs.Kept.{breaks_none}
use Rattle.expansion_rules.proofs.laws.rules_are_kept.Goals as goal

pub returns : goal.returns
returns c = λ w p unbroken expands. breaks_none w unbroken p expands
