use Rattle.mp_program.proofs.Soundness.{sound}
use Rattle.mp_program.proofs.Values.{mentions_is}
use Rattle.mp_program.proofs.laws.mentions.Goals as goal

pub returns : goal.returns
returns c = λ name e x at. mentions_is c.args.program.now name e x (sound c.args.program.now) at
