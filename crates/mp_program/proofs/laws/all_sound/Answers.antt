use Rattle.mp_program.proofs.Soundness.{sound}
use Rattle.mp_program.proofs.laws.all_sound.Goals as goal

pub returns : goal.returns
returns c = sound
