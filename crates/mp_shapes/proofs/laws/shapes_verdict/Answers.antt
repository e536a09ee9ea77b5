use Rattle.mp_shapes.proofs.Verdict.{verdict}
use Rattle.mp_shapes.proofs.laws.shapes_verdict.Goals as goal

pub returns : goal.returns
returns c = verdict
