use Rattle.nor_net.proofs.Loosening.{trace_loosens}
use Rattle.nor_net.proofs.Runs.{trace_once, trace_exists}
use Rattle.nor_net.proofs.laws.nets_run.Goals as goal

pub returns-clause-exist : goal.returns-clause-exist
returns-clause-exist c = trace_exists

pub returns-clause-once : goal.returns-clause-once
returns-clause-once c = trace_once

pub returns-clause-loose : goal.returns-clause-loose
returns-clause-loose c = trace_loosens
