use Rattle.board_run.proofs.Planned.{plans_run}
use Rattle.board_run.proofs.laws.plans_run.Goals as goal

pub returns : goal.returns
returns c = plans_run
