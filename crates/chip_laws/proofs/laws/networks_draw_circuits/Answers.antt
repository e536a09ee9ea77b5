use Rattle.chip_laws.proofs.Drawn as proofs
use Rattle.chip_laws.proofs.laws.networks_draw_circuits.Goals as goal

pub returns : goal.returns
returns c = proofs.networks_draw_circuits c.drawings_carry_over.ensures
