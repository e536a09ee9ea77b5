use Rattle.cif_emit.proofs.Fabrics.{fabric_on_grid}
use Rattle.cif_emit.proofs.laws.fabrics_are_on_grid.Goals as goal

pub returns : goal.returns
returns c = fabric_on_grid
