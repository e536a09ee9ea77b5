use Rattle.std.proofs.Common.{◌≡◌, ◌++◌}
use Rattle.std.specs.Prelude.{flat_map}
use Rattle.std.specs.List.{range_with_len}
use Rattle.band_lists.specs.Listed.{lines_at}
use Rattle.band_lists.proofs.lists.push_lines.Given as goal

abbrev pub invariant-loop-n : goal.invariant-loop-n
invariant-loop-n l =
    l.lines.items ≡ l.fn.lines.items ++ flat_map (lines_at l.band l.columns l.stubs l.net) (range_with_len 0 l.n)
