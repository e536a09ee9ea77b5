use Rattle.written_counts.proofs.Weighed.{weight_counted}
use Rattle.written_counts.proofs.laws.weight_counted.Goals as goal

pub returns : goal.returns
returns c = weight_counted
