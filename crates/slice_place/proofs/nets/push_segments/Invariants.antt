use Rattle.std.proofs.Common.{◌≡◌, ◌++◌}
use Rattle.std.specs.Prelude.{flat_map, slice_index}
use Rattle.slice_form.specs.Whole.{path_of}
use Rattle.array_form.specs.Laying.{band_segments}
use Rattle.slice_laying.specs.Added.{slice_cols}
use Rattle.std.specs.List.{range_with_len}
use Rattle.slice_place.proofs.nets.push_segments.Given as goal

abbrev pub invariant-loop-k : goal.invariant-loop-k
invariant-loop-k l = l.segments.items
    ≡ l.fn.segments.items ++ flat_map
    (λ b. band_segments b (slice_cols (path_of l.path)) (slice_index l.layout.tracks.row) l.path.slices.net)
    (range_with_len 1 l.k)
