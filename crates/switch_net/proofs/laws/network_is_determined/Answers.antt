use Rattle.switch_net.proofs.Unique.{drawn_once, numbered_once}
use Rattle.switch_net.proofs.laws.network_is_determined.Goals as goal

pub returns-clause-numbering : goal.returns-clause-numbering
returns-clause-numbering c = numbered_once

pub returns-clause-network : goal.returns-clause-network
returns-clause-network c = drawn_once
