use Rattle.mask_net.proofs.Steps.{sound}
use Rattle.mask_net.proofs.laws.sound_with_pads.Goals as goal

pub returns : goal.returns
returns c = sound
