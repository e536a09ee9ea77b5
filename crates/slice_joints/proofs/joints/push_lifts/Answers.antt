use Rattle.std.proofs.Common.{◌≡◌, ◌++◌, ◌∙◌, length, ap, arith}
use Rattle.std.specs.Prelude.{flat_map}
use Rattle.std.specs.List.{range_with_len}
use Rattle.std.specs.Prelude.{slice_get}
use Rattle.mp_base.proofs.Ranges.{flat_grown}
use Rattle.slice_form.specs.Whole.{path_of}
use Rattle.slice_form.specs.Joints.{lift_lines}
use Rattle.slice_joints.proofs.joints.push_lifts.Goals as goal

pub loop-i-preserved : goal.loop-i-preserved
loop-i-preserved c =
    let p = path_of c.args.path.now in
    flat_grown c.args.lines.now.items
    (λ i. lift_lines p i (slice_get p.lifts i)) c.loop-i.i _ _ c.loop-i.invariant c.in_ok-push_lift.ensures

pub returns : goal.returns
returns c =
    let p = path_of c.args.path.now in
    let end : c.loop-i.i ≡ length p.lifts = omega arith in
    c.loop-i.invariant ∙ ap (λ n. c.args.lines.now.items ++ flat_map (λ i. lift_lines p i (slice_get p.lifts i))
    (range_with_len 0 n)) end
