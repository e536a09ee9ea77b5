use Rattle.written_counts.proofs.Weighed.{pieces_counted}
use Rattle.written_counts.proofs.laws.pieces_counted.Goals as goal

pub returns : goal.returns
returns c = pieces_counted
