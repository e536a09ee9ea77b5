use Rattle.ground_ways.proofs.Ways as proofs
use Rattle.ground_ways.proofs.laws.transistors_are_clocked.Goals as goal

pub returns : goal.returns
returns c = proofs.transistors_are_clocked
