use Rattle.std.proofs.Common.{◌≡◌, ◌++◌}
use Rattle.std.specs.Prelude.{flat_map, slice_get, slice_index, suc}
use Rattle.slice_form.specs.Whole.{programmed_of}
use Rattle.slice_joints.specs.Tapping.{bit_marks_at}
use Rattle.std.specs.List.{range_with_len}
use Rattle.slice_joints.proofs.taps.push_program.Given as goal

abbrev pub invariant-loop-k : goal.invariant-loop-k
invariant-loop-k l = l.marks.items
    ≡ l.fn.marks.items ++ flat_map
    (λ k. bit_marks_at (suc l.tracks.rows) (slice_index l.tracks.row) l.program.net.0 l.column (suc k) (slice_get
    (programmed_of l.path.width l.program).bits k)) (range_with_len 0 l.k)
