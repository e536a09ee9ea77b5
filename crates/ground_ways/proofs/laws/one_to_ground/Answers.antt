use Rattle.ground_ways.proofs.Ways as proofs
use Rattle.ground_ways.proofs.laws.one_to_ground.Goals as goal

pub returns : goal.returns
returns c = proofs.one_to_ground
