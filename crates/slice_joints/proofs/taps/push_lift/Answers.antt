use Rattle.std.proofs.Common.{ℕ, ◌≡◌, ◌++◌, ◌∙◌, ap, arith}
use Rattle.std.specs.Prelude.{flat_map, slice_index}
use Rattle.std.specs.List.{range_with_len}
use Rattle.slice_form.specs.Whole.{path_of, lift_of}
use Rattle.slice_joints.specs.Tapping.{stub_tap}
use Rattle.slice_layout.proofs.Growth.{slices_grown}
use Rattle.slice_joints.proofs.Joined.{lift_tapped}
use Rattle.slice_joints.proofs.taps.push_lift.Goals as goal

pub loop-k-preserved : goal.loop-k-preserved
loop-k-preserved c =
    let row : ℕ → ℕ = slice_index c.args.tracks.now.row in
    let lift = c.lift_at-lift.result in
    slices_grown _ (stub_tap row lift.from.0 lift.slice c.lift_column-column.result) c.loop-k.k _ _ c.loop-k.invariant
    c.in_ok-push_stub.ensures

pub returns : goal.returns
returns c =
    let p = path_of c.args.path.now in
    let row : ℕ → ℕ = slice_index c.args.tracks.now.row in
    let lift = c.lift_at-lift.result in
    let end : c.loop-k.k ≡ p.width = omega arith in
    lift_tapped p c.args.i (lift_of lift) c.lift_at-lift.ensures.is row c.lift_column-column.result
    c.lift_column-column.ensures c.args.marks.now.items c.push.new.self.items _ c.marked-own.result
    c.in_ok-push.ensures.items
    c.marked-own.ensures
    (c.loop-k.invariant ∙ ap (λ n. c.push.new.self.items ++ flat_map
    (stub_tap row lift.from.0 lift.slice c.lift_column-column.result) (range_with_len 1 n)) end)
