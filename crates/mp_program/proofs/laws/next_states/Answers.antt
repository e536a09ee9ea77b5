use Rattle.mp_program.proofs.States.{state_kept}
use Rattle.mp_program.proofs.laws.next_states.Goals as goal

pub returns : goal.returns
returns c = λ st inputs env fits. state_kept c.args.program.now st inputs env c.requires fits
