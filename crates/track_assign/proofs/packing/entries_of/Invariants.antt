use Rattle.std.proofs.Common.{◌≡◌, ◌++◌, drop}
use Rattle.track_assign.specs.Rows.{entries_from}
use Rattle.track_assign.proofs.packing.entries_of.Given as goal

abbrev pub invariant-loop-index : goal.invariant-loop-index
invariant-loop-index l = l.entries.items ++ entries_from l.index (drop l.index l.intervals) ≡ entries_from 0 l.intervals
