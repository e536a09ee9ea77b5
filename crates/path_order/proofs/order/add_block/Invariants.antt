use Rattle.std.proofs.Common.{◌≡◌, ◌++◌}
use Rattle.path_order.specs.Order.{slice_pieces}
use Rattle.path_order.proofs.order.add_block.Given as goal

abbrev pub invariant-loop-slice : goal.invariant-loop-slice
invariant-loop-slice l = l.order ≡ l.initial.order ++ slice_pieces l.slice l.from.slices l.to.slices
