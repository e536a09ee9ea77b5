use Rattle.std.proofs.Common.{take}
use Rattle.cif_form.specs.Place.{segments}
use Rattle.cif_place.specs.Placing.{scale_of}
use Rattle.cif_place.specs.Shaping.{IsWiredSoFar}
use Rattle.cif_place.proofs.shape.draw_wire.Given as goal

abbrev pub invariant-loop-index : goal.invariant-loop-index
invariant-loop-index l =
    IsWiredSoFar (scale_of l.ratio) l.placement l.layer l.extent.across
    (take l.index (segments l.path)) l.initial.shapes l.shapes l.near
