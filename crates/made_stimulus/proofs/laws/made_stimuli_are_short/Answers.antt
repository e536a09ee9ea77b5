use Rattle.made_stimulus.proofs.Lengths.{made_is_short}
use Rattle.made_stimulus.proofs.laws.made_stimuli_are_short.Goals as goal

pub returns : goal.returns
returns c = made_is_short
