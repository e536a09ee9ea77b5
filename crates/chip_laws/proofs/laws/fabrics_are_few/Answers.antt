use Rattle.chip_laws.proofs.Sound as proofs
use Rattle.chip_laws.proofs.laws.fabrics_are_few.Goals as goal

pub returns : goal.returns
returns c =
    proofs.fabrics_are_few c.network_is_determined.ensures.numbering c.masks_draw_networks.ensures
    c.fabrics_are_small.ensures
