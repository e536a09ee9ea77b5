use Rattle.path_values.proofs.Syncing.{realized_shows}
use Rattle.path_values.proofs.laws.realized_paths_show.Goals as goal

pub returns : goal.returns
returns c = realized_shows
