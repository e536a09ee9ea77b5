use Rattle.nor_net.proofs.Solving.{one_decides, bits_told}
use Rattle.nor_net.proofs.laws.bits_are_told.Goals as goal

pub returns-clause-one : goal.returns-clause-one
returns-clause-one c = one_decides

pub returns-clause-told : goal.returns-clause-told
returns-clause-told c = bits_told
