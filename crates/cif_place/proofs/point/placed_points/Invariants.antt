use Rattle.std.proofs.Common.{take}
use Rattle.std.specs.List.{AllZip}
use Rattle.cif_place.specs.Placing.{scale_of}
use Rattle.cif_place.specs.Pointing.{IsPlacedPoint}
use Rattle.cif_place.proofs.point.placed_points.Given as goal

abbrev pub invariant-loop-index : goal.invariant-loop-index
invariant-loop-index l = AllZip (IsPlacedPoint (scale_of l.ratio) l.placement) (take l.index l.path) l.points.items
