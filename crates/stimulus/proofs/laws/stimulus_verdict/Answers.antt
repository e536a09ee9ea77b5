use Rattle.stimulus.proofs.Verdict.{verdict}
use Rattle.stimulus.proofs.laws.stimulus_verdict.Goals as goal

pub returns : goal.returns
returns c = verdict
