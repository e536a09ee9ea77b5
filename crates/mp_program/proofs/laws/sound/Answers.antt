use Rattle.mp_program.proofs.Soundness.{sound}
use Rattle.mp_program.proofs.laws.sound.Goals as goal

pub returns : goal.returns
returns c = sound c.args.program.now
