use Rattle.std.proofs.Common.{[], ◌∷◌, ◌++◌, ◌∙◌, ap}
use Rattle.mp_base.proofs.Ranges.{map_grown}
use Rattle.fabric.specs.declared.thing.Side.TheVariants.{L}
use Rattle.array_form.specs.Lists.{upright}
use Rattle.slice_form.specs.PathWires.{cast_line}
use Rattle.slice_form.specs.Slices.{across_of}
use Rattle.slice_form.specs.Whole.{path_of}
use Rattle.slice_joints.proofs.joints.push_casts.Goals as goal

pub loop-i-preserved : goal.loop-i-preserved
loop-i-preserved c =
    let p = path_of c.args.path.now in
    let items = c.loop-i.lines.items in
    map_grown c.args.lines.now.items (λ i. across_of p (cast_line i)) c.loop-i.i _ _ c.loop-i.invariant
    (c.in_ok-push.ensures.items
    ∙ ap (λ z. items ++ z ∷ []) (c.line.ensures ∙ ap (λ k. upright k L 0 p.width) c.cast_column.ensures))
