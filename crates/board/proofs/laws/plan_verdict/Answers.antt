use Rattle.board.proofs.Plans.{verdict}
use Rattle.board.proofs.laws.plan_verdict.Goals as goal

pub returns : goal.returns
returns c = verdict
