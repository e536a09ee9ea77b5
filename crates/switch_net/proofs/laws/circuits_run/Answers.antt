use Rattle.switch_net.proofs.Determined.{trace_once}
use Rattle.switch_net.proofs.Runs.{trace_exists}
use Rattle.switch_net.proofs.laws.circuits_run.Goals as goal

pub returns-clause-exist : goal.returns-clause-exist
returns-clause-exist c = trace_exists

pub returns-clause-once : goal.returns-clause-once
returns-clause-once c = trace_once
