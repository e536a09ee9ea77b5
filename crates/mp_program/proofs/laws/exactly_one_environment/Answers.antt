use Rattle.mp_program.proofs.Soundness.{sound}
use Rattle.mp_program.proofs.Environment.{one_environment}
use Rattle.mp_program.proofs.Existence.{an_environment}
use Rattle.mp_program.proofs.laws.exactly_one_environment.Goals as goal

pub returns : goal.returns
returns c = λ order ordered st inputs fits.
    let p = c.args.program.now in
    let (env, is) = an_environment p st inputs order fits ordered in
    (env, is, λ other also. one_environment p st inputs order other env (sound p) fits ordered also is)
