use Rattle.std.proofs.Common.{◌≡◌, ◌++◌}
use Rattle.std.specs.Prelude.{flat_map}
use Rattle.slice_form.specs.Whole.{path_of}
use Rattle.array_form.specs.Laying.{band_lines}
use Rattle.slice_form.specs.Slices.{slice_columns}
use Rattle.std.specs.List.{range_with_len}
use Rattle.slice_place.proofs.nets.push_lines.Given as goal

abbrev pub invariant-loop-k : goal.invariant-loop-k
invariant-loop-k l = l.lines.items
    ≡ l.fn.lines.items ++ flat_map
    (λ b. band_lines b (slice_columns (path_of l.path)) l.path.slices.net) (range_with_len 1 l.k)
