use Rattle.ground_ways.proofs.Ways as proofs
use Rattle.ground_ways.proofs.laws.pull_ups_are_tied.Goals as goal

pub returns : goal.returns
returns c = proofs.pull_ups_are_tied
