use Rattle.form_reader.proofs.First.{one_first}
use Rattle.form_reader.proofs.laws.one_first_rule.Goals as goal

pub returns : goal.returns
returns c = one_first
