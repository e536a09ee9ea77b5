use Rattle.form_reader.proofs.Verdict.{verdict}
use Rattle.form_reader.proofs.laws.text_verdict.Goals as goal

pub returns : goal.returns
returns c = verdict
