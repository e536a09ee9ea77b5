use Rattle.board.proofs.Existence.{verdict}
use Rattle.board.proofs.laws.links_verdict.Goals as goal

pub returns : goal.returns
returns c = verdict
