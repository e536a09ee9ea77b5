use Rattle.cif_form.proofs.OnePlace.{one_box, one_wire}
use Rattle.cif_place.proofs.laws.rectangles_are_determined.Goals as goal

pub returns-clause-boxes : goal.returns-clause-boxes
returns-clause-boxes c = one_box

pub returns-clause-wires : goal.returns-clause-wires
returns-clause-wires c = one_wire
