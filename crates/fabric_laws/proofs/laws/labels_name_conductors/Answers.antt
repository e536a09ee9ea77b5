use Rattle.fabric_laws.proofs.Network.{labels_name}
use Rattle.fabric_laws.proofs.laws.labels_name_conductors.Goals as goal

pub returns : goal.returns
returns c = labels_name c.rectangles_are_joined.ensures
