use Rattle.std.proofs.Common.{◌≡◌, ◌++◌, ◌∙◌, ap, arith}
use Rattle.std.specs.Prelude.{flat_map}
use Rattle.std.specs.List.{range_with_len}
use Rattle.slice_form.specs.Whole.{path_of, lift_of}
use Rattle.slice_joints.specs.Joining.{stub_joint}
use Rattle.slice_layout.proofs.Growth.{bands_grown}
use Rattle.slice_joints.proofs.Joined.{lift_joined}
use Rattle.slice_joints.proofs.joints.push_lift.Goals as goal

pub loop-k-preserved : goal.loop-k-preserved
loop-k-preserved c =
    bands_grown _ (stub_joint c.lift_column-column.result c.lift_at-slice.result.slice) c.loop-k.k _ _
    c.loop-k.invariant
    c.in_ok-push_stub.ensures

pub returns : goal.returns
returns c =
    let p = path_of c.args.path.now in
    let end : c.loop-k.k ≡ p.width = omega arith in
    lift_joined p c.args.i (lift_of c.lift_at-slice.result) c.lift_at-slice.ensures.is c.lift_column-column.result
    c.lift_column-column.ensures c.args.lines.now.items c.push.new.self.items _ c.line.result
    c.in_ok-push.ensures.items c.line.ensures
    (c.loop-k.invariant ∙ ap (λ n. c.push.new.self.items
    ++ flat_map (stub_joint c.lift_column-column.result c.lift_at-slice.result.slice)
    (range_with_len 1 n)) end)
