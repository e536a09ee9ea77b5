use Rattle.switch_net.proofs.FirstBroken.{first_of_mask, first_of_circuit}
use Rattle.switch_net.proofs.laws.first_rule_is_determined.Goals as goal

pub returns-clause-mask : goal.returns-clause-mask
returns-clause-mask c = first_of_mask

pub returns-clause-circuit : goal.returns-clause-circuit
returns-clause-circuit c = first_of_circuit
