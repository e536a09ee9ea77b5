use Rattle.form_text.proofs.Written.{written_is_spelled}
use Rattle.form_text.proofs.laws.written_forms_are_spelled.Goals as goal

pub returns : goal.returns
returns c = written_is_spelled
