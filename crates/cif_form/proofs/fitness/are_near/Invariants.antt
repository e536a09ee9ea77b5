use Rattle.std.proofs.Common.{◌↔◌, All, drop}
use Rattle.std.specs.List.{flat_map}
use Rattle.cif_form.specs.Fits.{IsSmall, point_numbers}
use Rattle.cif_form.proofs.fitness.are_near.Given as goal

abbrev pub invariant-loop-point : goal.invariant-loop-point
invariant-loop-point l =
    All IsSmall (flat_map point_numbers (drop l.point-index l.points)) ↔ All IsSmall (flat_map point_numbers l.points)
