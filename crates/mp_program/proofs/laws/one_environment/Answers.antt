use Rattle.mp_program.proofs.Soundness.{sound}
use Rattle.mp_program.proofs.Environment.{one_environment}
use Rattle.mp_program.proofs.laws.one_environment.Goals as goal

pub returns : goal.returns
returns c = λ st inputs a b fits first second.
    one_environment c.args.program.now st inputs c.args.order.now a b
    (sound c.args.program.now) fits c.requires first second
