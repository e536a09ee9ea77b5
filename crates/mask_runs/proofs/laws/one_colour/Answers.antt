use Rattle.mask_runs.proofs.laws.one_colour.Goals as goal
use Rattle.mask_runs.proofs.Colouring.{one_colour}

-- src/laws.rt
pub returns : goal.returns
returns c = one_colour
