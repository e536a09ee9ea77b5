use Rattle.std.proofs.Common.{ℕ, ◌≡◌, ◌++◌, ◌∙◌, length, ap, arith}
use Rattle.std.specs.Prelude.{flat_map}
use Rattle.std.specs.List.{range_with_len}
use Rattle.std.specs.Prelude.{slice_get, slice_index}
use Rattle.mp_base.proofs.Ranges.{flat_grown}
use Rattle.slice_form.specs.Whole.{path_of}
use Rattle.slice_laying.specs.Added.{lift_taps}
use Rattle.slice_joints.proofs.taps.push_lifts.Goals as goal

pub loop-i-preserved : goal.loop-i-preserved
loop-i-preserved c =
    let p = path_of c.args.path.now in
    flat_grown c.args.marks.now.items
    (λ i. lift_taps p (slice_index c.args.tracks.now.row) i
    (slice_get p.lifts i)) c.loop-i.i _ _ c.loop-i.invariant c.in_ok-push_lift.ensures

pub returns : goal.returns
returns c =
    let p = path_of c.args.path.now in
    let row : ℕ → ℕ = slice_index c.args.tracks.now.row in
    let end : c.loop-i.i ≡ length p.lifts = omega arith in
    c.loop-i.invariant ∙ ap (λ n. c.args.marks.now.items ++ flat_map (λ i. lift_taps p row i (slice_get p.lifts i))
    (range_with_len 0 n)) end
