use Rattle.nor_net.proofs.Machines.{clock_steps, reset_clears}
use Rattle.nor_net.proofs.laws.states_step.Goals as goal

pub returns-clause-steps : goal.returns-clause-steps
returns-clause-steps c = clock_steps

pub returns-clause-clears : goal.returns-clause-clears
returns-clause-clears c = reset_clears
