use Rattle.std.specs.Prelude.{slice_index}
use Rattle.slice_form.specs.Whole.{path_of}
use Rattle.slice_laying.specs.Added.{trunk_taps}
use Rattle.slice_layout.proofs.Growth.{slices_grown}
use Rattle.slice_joints.proofs.taps.push_trunks.Goals as goal

pub loop-k-preserved : goal.loop-k-preserved
loop-k-preserved c =
    slices_grown c.args.marks.now.items (trunk_taps (path_of c.args.path.now) (slice_index c.args.tracks.now.row))
    c.loop-k.k _ _ c.loop-k.invariant c.in_ok-push_slice_trunks.ensures
