use Rattle.std.proofs.Common.{take, All}
use Rattle.cif_form.specs.Place.{segments}
use Rattle.cif_place.specs.Shaping.{IsStraight}
use Rattle.cif_place.proofs.shape.are_straight.Given as goal

abbrev pub invariant-loop-index : goal.invariant-loop-index
invariant-loop-index l = All IsStraight (take l.index (segments l.path))
