use Rattle.mask_laws.proofs.Squares.{numbering_exists}
use Rattle.mask_laws.proofs.laws.masks_are_numbered.Goals as goal

pub returns : goal.returns
returns c = numbering_exists
