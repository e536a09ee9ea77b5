use Rattle.mp_program.proofs.Soundness.{sound}
use Rattle.mp_program.proofs.Effects.{effects_is}
use Rattle.mp_program.proofs.laws.effects.Goals as goal

pub returns : goal.returns
returns c = λ env f x at. effects_is c.args.program.now env f x (sound c.args.program.now) at
