use Rattle.cif_verdict.proofs.Walking.{file_walks}
use Rattle.cif_verdict.proofs.laws.walks_exist.Goals as goal

pub returns : goal.returns
returns c = file_walks c.polygons_are_split.ensures
