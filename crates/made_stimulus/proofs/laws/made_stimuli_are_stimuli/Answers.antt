use Rattle.made_stimulus.proofs.Stimuli.{made_is_stimulus}
use Rattle.made_stimulus.proofs.laws.made_stimuli_are_stimuli.Goals as goal

pub returns : goal.returns
returns c = made_is_stimulus
