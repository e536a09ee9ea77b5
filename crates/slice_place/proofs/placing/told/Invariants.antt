use Rattle.std.proofs.Common.{◌≡◌, map, replicate}
use Rattle.std.specs.Prelude.{slice_index}
use Rattle.std.specs.List.{range_with_len}
use Rattle.slice_form.specs.Whole.{path_of}
use Rattle.slice_place.specs.Placed.{told_segments}
use Rattle.slice_place.proofs.placing.told.Given as goal

abbrev pub invariant-loop-k : goal.invariant-loop-k
invariant-loop-k l = record {
  segments : l.segments ≡ map (told_segments (path_of l.path) (slice_index l.layout.tracks.row)) (range_with_len 1 l.k);
  groups : l.groups ≡ replicate l.k l.layout.tracks;
}
