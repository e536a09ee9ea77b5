use Rattle.std.proofs.Common.{◌≡◌, map}
use Rattle.std.specs.List.{range_with_len}
use Rattle.band_lists.specs.Homed.{is_unpinned}
use Rattle.band_lists.proofs.homes.unpinned.Given as goal

abbrev pub invariant-loop-n : goal.invariant-loop-n
invariant-loop-n l = l.flags.items ≡ map (is_unpinned l.pinned) (range_with_len 0 l.n)
