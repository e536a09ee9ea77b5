use Rattle.std.proofs.Common.{◌≡◌, ◌++◌}
use Rattle.std.specs.Prelude.{flat_map, slice_get, slice_index, suc}
use Rattle.slice_form.specs.Whole.{path_of}
use Rattle.slice_laying.specs.Added.{bit_marks}
use Rattle.std.specs.List.{range_with_len}
use Rattle.slice_joints.proofs.taps.push_programs.Given as goal

abbrev pub invariant-loop-i : goal.invariant-loop-i
invariant-loop-i l = l.marks.items
    ≡ l.fn.marks.items ++ flat_map
    (λ i. bit_marks (path_of l.path) (suc l.tracks.rows) (slice_index l.tracks.row) (slice_get
    (path_of l.path).programs i)) (range_with_len 0 l.i)
