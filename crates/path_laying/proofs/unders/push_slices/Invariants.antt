use Rattle.std.proofs.Common.{◌≡◌, ◌++◌, map}
use Rattle.std.specs.Prelude.{flat_map, slice_index}
use Rattle.std.specs.List.{range_with_len}
use Rattle.slice_form.specs.Whole.{path_of}
use Rattle.path_laying.specs.Crossed.{crossing}
use Rattle.path_laying.proofs.unders.push_slices.Given as goal

abbrev pub invariant-loop-k : goal.invariant-loop-k
invariant-loop-k l = l.marks.items ≡ l.initial.marks.items
    ++ flat_map (λ b. map (crossing (slice_index l.tracks.row) b) (path_of l.path).west_words) (range_with_len 1 l.k)
