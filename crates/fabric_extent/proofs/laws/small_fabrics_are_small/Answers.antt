use Rattle.fabric_extent.proofs.Sides as proofs
use Rattle.fabric_extent.proofs.laws.small_fabrics_are_small.Goals as goal

pub returns : goal.returns
returns c = proofs.small_fabrics_are_small
