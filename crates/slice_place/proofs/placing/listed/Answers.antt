use Rattle.std.proofs.Common.{◌++◌, ◌∙◌, ap}
use Rattle.std.specs.Prelude.{slice_index, suc}
use Rattle.slice_form.specs.Joints.{joint_lines}
use Rattle.slice_form.specs.Whole.{path_of}
use Rattle.slice_laying.specs.Added.{slice_segments, slice_lines, slice_marks, joint_marks}
use Rattle.slice_place.proofs.placing.listed.Goals as goal

pub returns : goal.returns
returns c =
    let p = path_of c.args.path.now in
    let tracks = c.args.layout.now.tracks in
    let row = slice_index tracks.row in
    record {
      segments = c.in_ok-push_segments.ensures ∙ ap (λ l. l ++ slice_segments p row) c.new-segments.ensures.items;
      lines = c.in_ok-push_joints.ensures ∙ ap (λ l. l ++ joint_lines p)
          (c.in_ok-push_lines.ensures ∙ ap (λ l. l ++ slice_lines p) c.new-lines.ensures.items);
      marks = c.in_ok-push_joint_marks.ensures ∙ ap (λ l. l ++ joint_marks p (suc tracks.rows) row)
          (c.in_ok-push_marks.ensures ∙ ap (λ l. l ++ slice_marks p (suc tracks.rows) row) c.new-marks.ensures.items);
    }
