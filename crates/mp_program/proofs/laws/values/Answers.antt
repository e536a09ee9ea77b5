use Rattle.mp_program.proofs.Soundness.{sound}
use Rattle.mp_program.proofs.Values.{value_is}
use Rattle.mp_program.proofs.laws.values.Goals as goal

pub returns : goal.returns
returns c = λ env e x at. value_is c.args.program.now env e x (sound c.args.program.now) at
