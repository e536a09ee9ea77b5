use Rattle.std.proofs.Common.{◌≡◌, ◌++◌, map, take, slice_index}
use Rattle.mp_entries.proofs.exprs.append_entries.Given as goal

abbrev pub invariant-loop-node : goal.invariant-loop-node
invariant-loop-node l = l.list ≡ l.initial.list ++ map (slice_index l.ranks) (take l.node-index l.nodes)
