use Rattle.std.proofs.Common.{◌≡◌, ◌++◌, ◌<◌, ◌+◌, length}
use Rattle.std.specs.Prelude.{All, flat_map}
use Rattle.std.specs.List.{range_with_len}
use Rattle.band_lists.specs.Listed.{marks_in}
use Rattle.band_lists.proofs.marks.push_marks.Given as goal

abbrev pub invariant-loop-n : goal.invariant-loop-n
invariant-loop-n l = record {
  marks : l.marks.items ≡ l.fn.marks.items
      ++ flat_map (marks_in l.tracks l.band l.columns l.stubs l.net) (range_with_len 0 l.n);
  long : length l.seen.items ≡ length l.net;
  fresh : All (λ s. s < l.n + 1) l.seen.items;
}
