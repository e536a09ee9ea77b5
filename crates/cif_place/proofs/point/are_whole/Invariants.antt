use Rattle.std.proofs.Common.{take, All}
use Rattle.cif_form.specs.Walk.{IsWholePoint}
use Rattle.cif_place.specs.Placing.{scale_of}
use Rattle.cif_place.proofs.point.are_whole.Given as goal

abbrev pub invariant-loop-index : goal.invariant-loop-index
invariant-loop-index l = All (IsWholePoint (scale_of l.ratio)) (take l.index l.path)
