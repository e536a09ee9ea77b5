use Rattle.path_plan.proofs.Sizes as proofs
use Rattle.path_plan.proofs.laws.labels_are_few.Goals as goal

pub returns : goal.returns
returns c = proofs.labels_are_few
