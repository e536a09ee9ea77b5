use Rattle.std.proofs.Common.{◌≡◌, ◌++◌}
use Rattle.std.specs.Prelude.{flat_map, slice_index, suc}
use Rattle.slice_form.specs.Whole.{path_of}
use Rattle.array_form.specs.Laying.{band_marks}
use Rattle.slice_form.specs.Slices.{slice_columns}
use Rattle.std.specs.List.{range_with_len}
use Rattle.slice_place.proofs.nets.push_marks.Given as goal

abbrev pub invariant-loop-k : goal.invariant-loop-k
invariant-loop-k l = l.marks.items
    ≡ l.fn.marks.items ++ flat_map
    (λ b. band_marks b (suc l.layout.tracks.rows) (slice_index l.layout.tracks.row) (slice_columns
    (path_of l.path)) l.path.slices.net) (range_with_len 1 l.k)
