use Rattle.std.proofs.Common.{ℕ, ◌≡◌, suc, ◌++◌, ◌∙◌, ap, arith}
use Rattle.std.specs.Prelude.{flat_map, slice_get, slice_index}
use Rattle.std.specs.List.{range_with_len}
use Rattle.mp_base.proofs.Ranges.{flat_grown}
use Rattle.slice_form.specs.Whole.{path_of, programmed_of}
use Rattle.slice_joints.specs.Tapping.{bit_marks_at}
use Rattle.slice_joints.proofs.Joined.{program_tapped}
use Rattle.slice_joints.proofs.taps.push_program.Goals as goal

pub loop-k-preserved : goal.loop-k-preserved
loop-k-preserved c =
    let row : ℕ → ℕ = slice_index c.args.tracks.now.row in
    let program = c.program_at-program.result in
    let w : ℕ = c.args.path.now.width in
    flat_grown c.args.marks.now.items
    (λ k. bit_marks_at (suc c.args.tracks.now.rows) row program.net.0 c.home_of-column.result (suc k)
    (slice_get (programmed_of w program).bits k)) c.loop-k.k _ _ c.loop-k.invariant c.in_ok-push_bit.ensures

pub returns : goal.returns
returns c =
    let p = path_of c.args.path.now in
    let row : ℕ → ℕ = slice_index c.args.tracks.now.row in
    let program = c.program_at-program.result in
    let end : c.loop-k.k ≡ p.width = omega arith in
    program_tapped p c.args.i (programmed_of p.width program) c.program_at-program.ensures.is
    (suc c.args.tracks.now.rows) row c.home_of-column.result c.home_of-column.ensures c.args.marks.now.items _
    (c.loop-k.invariant ∙ ap (λ n. c.args.marks.now.items ++ flat_map
    (λ k. bit_marks_at (suc c.args.tracks.now.rows) row program.net.0 c.home_of-column.result (suc k)
    (slice_get (programmed_of p.width program).bits k)) (range_with_len 0 n)) end)
