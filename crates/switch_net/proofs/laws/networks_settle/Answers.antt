use Rattle.switch_net.proofs.Rounds.{settled_once}
use Rattle.switch_net.proofs.Exists.{settled_exists}
use Rattle.switch_net.proofs.Again.{settles_again}
use Rattle.switch_net.proofs.laws.networks_settle.Goals as goal

pub returns-clause-exist : goal.returns-clause-exist
returns-clause-exist c = settled_exists

pub returns-clause-once : goal.returns-clause-once
returns-clause-once c = settled_once

pub returns-clause-again : goal.returns-clause-again
returns-clause-again c = settles_again
