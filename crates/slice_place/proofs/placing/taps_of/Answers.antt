use Rattle.std.proofs.Common.{[], ◌∷◌, ◌++◌, ◌∙◌, ap, length, map}
use Rattle.std.specs.List.{range_with_len}
use Rattle.mp_base.proofs.Ranges.{map_grown}
use Rattle.slice_form.specs.Slices.{cast_column, lift_column}
use Rattle.slice_form.specs.Whole.{path_of}
use Rattle.slice_place.proofs.placing.taps_of.Goals as goal

pub loop-cast-preserved : goal.loop-cast-preserved
loop-cast-preserved c =
    map_grown [] cast_column c.loop-cast.cast _ _ c.loop-cast.invariant
    (c.in_ok-push.ensures.ok ∙ ap (λ z. c.loop-cast.taps ++ z ∷ []) c.cast_column.ensures)

pub loop-lift-preserved : goal.loop-lift-preserved
loop-lift-preserved c =
    let p = path_of c.args.path.now in
    map_grown (map cast_column (range_with_len 0 (length p.casts))) (lift_column p) c.loop-lift.lift _ _
    c.loop-lift.invariant
    (c.in_ok-push-2.ensures.ok ∙ ap (λ z. c.loop-lift.taps ++ z ∷ []) c.lift_column.ensures)
