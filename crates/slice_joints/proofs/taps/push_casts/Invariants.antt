use Rattle.std.proofs.Common.{◌≡◌, ◌++◌}
use Rattle.std.specs.Prelude.{flat_map, slice_get, slice_index}
use Rattle.slice_form.specs.Whole.{path_of}
use Rattle.slice_laying.specs.Added.{cast_taps}
use Rattle.std.specs.List.{range_with_len}
use Rattle.slice_joints.proofs.taps.push_casts.Given as goal

abbrev pub invariant-loop-i : goal.invariant-loop-i
invariant-loop-i l = l.marks.items
    ≡ l.fn.marks.items ++ flat_map
    (λ i. cast_taps (path_of l.path) (slice_index l.tracks.row) i (slice_get (path_of l.path).casts i))
    (range_with_len 0 l.i)
