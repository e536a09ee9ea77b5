use Rattle.std.proofs.Common.{◌≡◌, take, slice_index}
use Rattle.std.specs.List.{flat_map}
use Rattle.mp_syntax.specs.Shape.{always_at}
use Rattle.mp_syntax.proofs.items.always_of.Given as goal

abbrev pub invariant-loop-node : goal.invariant-loop-node
invariant-loop-node l = l.list ≡ flat_map (always_at l.forms (slice_index l.ranks)) (take l.node-index l.items)
