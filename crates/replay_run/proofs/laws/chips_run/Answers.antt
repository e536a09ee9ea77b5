use Rattle.replay_run.proofs.Chips.{draws, padded}
use Rattle.replay_run.proofs.laws.chips_run.Goals as goal

pub returns-clause-draws : goal.returns-clause-draws
returns-clause-draws c = draws c.one_network.ensures c.sound_with_pads.ensures c.one_pads.ensures

pub returns-clause-padded : goal.returns-clause-padded
returns-clause-padded c p bytes net pads chip =
    padded c.one_network.ensures c.sound_with_pads.ensures c.one_pads.ensures p bytes chip net pads
