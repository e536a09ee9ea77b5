use Rattle.replay_command.proofs.Replaying.{follow}
use Rattle.replay_command.proofs.laws.replays_follow.Goals as goal

pub returns : goal.returns
returns c = follow c.one_source.ensures c.replays_follow.ensures
