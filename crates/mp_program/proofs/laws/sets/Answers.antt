use Rattle.mp_program.proofs.Soundness.{sound}
use Rattle.mp_program.proofs.Effects.{sets_is}
use Rattle.mp_program.proofs.laws.sets.Goals as goal

pub returns : goal.returns
returns c = λ name f x at. sets_is c.args.program.now name f x (sound c.args.program.now) at
