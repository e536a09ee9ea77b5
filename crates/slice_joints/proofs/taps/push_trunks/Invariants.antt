use Rattle.std.proofs.Common.{◌≡◌, ◌++◌}
use Rattle.std.specs.Prelude.{flat_map, slice_index}
use Rattle.slice_form.specs.Whole.{path_of}
use Rattle.slice_laying.specs.Added.{trunk_taps}
use Rattle.std.specs.List.{range_with_len}
use Rattle.slice_joints.proofs.taps.push_trunks.Given as goal

abbrev pub invariant-loop-k : goal.invariant-loop-k
invariant-loop-k l = l.marks.items
    ≡ l.fn.marks.items ++ flat_map (trunk_taps (path_of l.path) (slice_index l.tracks.row)) (range_with_len 1 l.k)
