use Rattle.std.proofs.Common.{ℕ, suc}
use Rattle.std.specs.Prelude.{slice_index}
use Rattle.slice_form.specs.Whole.{path_of}
use Rattle.slice_joints.specs.Tapping.{trunk_marks, cast_marks, lift_marks, program_marks, chain_marks}
use Rattle.slice_layout.proofs.Growth.{five_more}
use Rattle.slice_joints.proofs.taps.push_joint_marks.Goals as goal

pub returns : goal.returns
returns c =
    let p = path_of c.args.path.now in
    let row : ℕ → ℕ = slice_index c.args.tracks.now.row in
    five_more c.args.marks.now.items (trunk_marks p row) (cast_marks p row) (lift_marks p row)
    (program_marks p (suc c.args.tracks.now.rows) row) (chain_marks p row)
    _ _ _ _ _ c.in_ok-push_trunks.ensures c.in_ok-push_casts.ensures c.in_ok-push_lifts.ensures
    c.in_ok-push_programs.ensures c.in_ok-push_chains.ensures
