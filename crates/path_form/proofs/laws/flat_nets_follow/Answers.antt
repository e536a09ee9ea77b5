use Rattle.path_form.proofs.Pulling.{flat_follows}
use Rattle.path_form.proofs.FlatShowing.{flat_shows}
use Rattle.path_form.proofs.laws.flat_nets_follow.Goals as goal

pub returns-clause-follows : goal.returns-clause-follows
returns-clause-follows c = flat_follows

pub returns-clause-shows : goal.returns-clause-shows
returns-clause-shows c = flat_shows
