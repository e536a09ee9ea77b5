use Rattle.std.proofs.Common.{◌≡◌, ◌++◌, drop}
use Rattle.pad_order.specs.Entries.{entries_from}
use Rattle.pad_order.proofs.order.entries_of.Given as goal

abbrev pub invariant-loop-index : goal.invariant-loop-index
invariant-loop-index l = l.entries ++ entries_from l.index (drop l.index l.ports) ≡ entries_from 0 l.ports
