use Rattle.std.proofs.Common.{◌≡◌, false}
use Rattle.std.specs.Prelude.{All}
use Rattle.settle_order.specs.declared.order.Order.{Order}
use Rattle.settle_order.specs.Order.{AreRoomy}
use Rattle.settle_order.proofs.orders.empty_orders.Given as goal

abbrev pub invariant-loop-order : goal.invariant-loop-order
invariant-loop-order l = All (AreRoomy l.room) l.orders.items × All (λ (o : Order). o.made ≡ false) l.orders.items
