use Rattle.form_reader.proofs.Unique.{one_value}
use Rattle.form_reader.proofs.laws.one_spelling.Goals as goal

pub returns : goal.returns
returns c = one_value
