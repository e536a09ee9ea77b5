use Rattle.written_counts.proofs.Weighed.{length_counted}
use Rattle.written_counts.proofs.laws.length_counted.Goals as goal

pub returns : goal.returns
returns c = length_counted
