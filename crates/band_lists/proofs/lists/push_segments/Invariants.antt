use Rattle.std.proofs.Common.{◌≡◌, ◌++◌, map}
use Rattle.std.specs.List.{range_with_len}
use Rattle.band_lists.specs.Listed.{segment_of}
use Rattle.band_lists.proofs.lists.push_segments.Given as goal

abbrev pub invariant-loop-k : goal.invariant-loop-k
invariant-loop-k l =
    l.segments.items ≡ l.fn.segments.items ++ map (segment_of l.band l.spans l.rows) (range_with_len 0 l.k)
