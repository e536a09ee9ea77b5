use Rattle.track_laws.proofs.Fewest as proofs
use Rattle.track_laws.proofs.laws.rows_are_fewest.Goals as goal

pub returns : goal.returns
returns c = proofs.fewest_rows
