use Rattle.std.proofs.Common.{◌≡◌, take, slice_index}
use Rattle.std.specs.List.{filter_map}
use Rattle.mp_syntax.specs.Shape.{process_at}
use Rattle.mp_syntax.proofs.items.processes_of.Given as goal

abbrev pub invariant-loop-node : goal.invariant-loop-node
invariant-loop-node l = l.processes ≡ filter_map (process_at l.forms (slice_index l.ranks)) (take l.node-index l.items)
