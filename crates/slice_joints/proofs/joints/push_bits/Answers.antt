use Rattle.std.proofs.Common.{◌≡◌, ◌++◌, ◌∙◌, length, ap, arith}
use Rattle.std.specs.Prelude.{flat_map}
use Rattle.std.specs.List.{range_with_len}
use Rattle.std.specs.Prelude.{slice_get}
use Rattle.mp_base.proofs.Ranges.{flat_grown}
use Rattle.slice_form.specs.Whole.{path_of}
use Rattle.slice_form.specs.Joints.{bit_lines}
use Rattle.slice_joints.proofs.joints.push_bits.Goals as goal

pub loop-i-preserved : goal.loop-i-preserved
loop-i-preserved c =
    let p = path_of c.args.path.now in
    flat_grown c.args.lines.now.items
    (λ i. bit_lines p (slice_get p.programs i)) c.loop-i.i _ _ c.loop-i.invariant c.in_ok-push_bit.ensures

pub returns : goal.returns
returns c =
    let p = path_of c.args.path.now in
    let end : c.loop-i.i ≡ length p.programs = omega arith in
    c.loop-i.invariant ∙ ap (λ n. c.args.lines.now.items ++ flat_map (λ i. bit_lines p (slice_get p.programs i))
    (range_with_len 0 n)) end
