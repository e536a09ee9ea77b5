use Rattle.mp_written.proofs.Soundness.{sound}
use Rattle.mp_written.proofs.laws.sound.Goals as goal

pub returns : goal.returns
returns c = sound
