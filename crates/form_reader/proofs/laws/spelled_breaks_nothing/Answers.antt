use Rattle.form_reader.proofs.Unique.{breaks_nothing}
use Rattle.form_reader.proofs.laws.spelled_breaks_nothing.Goals as goal

pub returns : goal.returns
returns c = breaks_nothing
