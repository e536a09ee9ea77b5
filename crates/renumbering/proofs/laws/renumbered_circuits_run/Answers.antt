use Rattle.renumbering.proofs.Running.{runs_alike}
use Rattle.renumbering.proofs.laws.renumbered_circuits_run.Goals as goal

pub returns : goal.returns
returns c = runs_alike c.networks_settle.ensures.exist
