use Rattle.std.proofs.Common.{◌≡◌, ◌++◌, length, map}
use Rattle.std.specs.List.{range_with_len}
use Rattle.slice_form.specs.Slices.{cast_column, lift_column}
use Rattle.slice_form.specs.Whole.{path_of}
use Rattle.slice_place.proofs.placing.taps_of.Given as goal

abbrev pub invariant-loop-cast : goal.invariant-loop-cast
invariant-loop-cast l = l.taps ≡ map cast_column (range_with_len 0 l.cast)

abbrev pub invariant-loop-lift : goal.invariant-loop-lift
invariant-loop-lift l =
    l.taps ≡ map cast_column (range_with_len 0 (length (path_of l.path).casts)) ++ map
    (lift_column (path_of l.path)) (range_with_len 0 l.lift)
