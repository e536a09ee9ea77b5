use Rattle.std.proofs.Common.{◌<◌, ℕ}
use Rattle.settle_order.specs.Order.{Fits, demand_at}
use Rattle.switch_net.specs.Values.{driver_at}
use Rattle.settle_order.proofs.order.serves.Given as goal

abbrev pub invariant-loop-node : goal.invariant-loop-node
invariant-loop-node l = (n : ℕ) → n < l.node → Fits (demand_at l.demands n) (driver_at l.drive n)
