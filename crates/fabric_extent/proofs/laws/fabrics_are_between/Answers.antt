use Rattle.fabric_extent.proofs.Sides as proofs
use Rattle.fabric_extent.proofs.laws.fabrics_are_between.Goals as goal

pub returns : goal.returns
returns c = proofs.fabrics_are_between
