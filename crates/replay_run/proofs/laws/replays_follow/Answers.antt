use Rattle.replay_run.proofs.Chips.{follows}
use Rattle.replay_run.proofs.laws.replays_follow.Goals as goal

pub returns : goal.returns
returns c p bytes net given text chip =
    follows c.one_network.ensures c.sound_with_pads.ensures c.one_pads.ensures p bytes chip net given text
