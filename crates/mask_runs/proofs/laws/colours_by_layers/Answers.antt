use Rattle.mask_runs.proofs.laws.colours_by_layers.Goals as goal
use Rattle.mask_runs.proofs.Colouring.{by_layers}

-- src/laws.rt
pub returns : goal.returns
returns c = by_layers
