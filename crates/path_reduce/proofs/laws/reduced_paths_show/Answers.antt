use Rattle.path_reduce.proofs.Shown.{reduced_shows}
use Rattle.path_reduce.proofs.laws.reduced_paths_show.Goals as goal

pub returns : goal.returns
returns c = reduced_shows
