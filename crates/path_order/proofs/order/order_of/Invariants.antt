use Rattle.std.proofs.Common.{◌≡◌, ◌++◌, drop}
use Rattle.path_order.specs.Order.{order_from, start}
use Rattle.path_order.proofs.order.order_of.Given as goal

abbrev pub invariant-loop-to : goal.invariant-loop-to
invariant-loop-to l =
    l.order ++ order_from l.width l.from (drop l.to-index l.marks) ≡ order_from l.width start l.marks
