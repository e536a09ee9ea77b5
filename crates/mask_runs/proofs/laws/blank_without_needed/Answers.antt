use Rattle.mask_runs.proofs.laws.blank_without_needed.Goals as goal
use Rattle.mask_runs.proofs.Colouring.{without_needed}

-- src/laws.rt
pub returns : goal.returns
returns c = without_needed
