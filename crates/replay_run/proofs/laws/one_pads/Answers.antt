use Rattle.replay_run.proofs.ProgramPads.{one_pads}
use Rattle.replay_run.proofs.laws.one_pads.Goals as goal

pub returns : goal.returns
returns c = one_pads
