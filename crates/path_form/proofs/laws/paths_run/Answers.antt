use Rattle.path_form.proofs.Covering.{paths_run}
use Rattle.path_form.proofs.laws.paths_run.Goals as goal

pub returns : goal.returns
returns c = paths_run
