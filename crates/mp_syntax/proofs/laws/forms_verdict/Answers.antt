use Rattle.mp_syntax.proofs.Verdict.{verdict}
use Rattle.mp_syntax.proofs.laws.forms_verdict.Goals as goal

pub returns : goal.returns
returns c = verdict c.shapes_verdict.ensures
