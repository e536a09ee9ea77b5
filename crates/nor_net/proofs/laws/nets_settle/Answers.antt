use Rattle.nor_net.proofs.Solving.{settled_once}
use Rattle.nor_net.proofs.Exists.{settled_exists}
use Rattle.nor_net.proofs.laws.nets_settle.Goals as goal

pub returns-clause-exist : goal.returns-clause-exist
returns-clause-exist c = settled_exists

pub returns-clause-once : goal.returns-clause-once
returns-clause-once c = settled_once
