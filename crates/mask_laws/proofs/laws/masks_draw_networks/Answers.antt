use Rattle.mask_laws.proofs.Networks.{network_exists}
use Rattle.mask_laws.proofs.laws.masks_draw_networks.Goals as goal

pub returns : goal.returns
returns c = network_exists
