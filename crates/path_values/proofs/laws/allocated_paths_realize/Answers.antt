use Rattle.path_values.proofs.Taming.{allocated_realizes}
use Rattle.path_values.proofs.laws.allocated_paths_realize.Goals as goal

pub returns : goal.returns
returns c = allocated_realizes
