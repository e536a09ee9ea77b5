use Rattle.std.proofs.Common.{◌≡◌, take, slice_index}
use Rattle.std.specs.List.{filter_map}
use Rattle.mp_syntax.specs.Shape.{def_at}
use Rattle.mp_syntax.proofs.defs.defs_of.Given as goal

abbrev pub invariant-loop-node : goal.invariant-loop-node
invariant-loop-node l = l.defs ≡ filter_map (def_at l.forms (slice_index l.ranks)) (take l.node-index l.items)
