use Rattle.std.proofs.Common.{◌≡◌, ◌<◌, ℕ, Some, None}
use Rattle.mp_base.specs.declared.value.Trit.{Trit}
use Rattle.node_clusters.specs.Values.{IsMarked}
use Rattle.switch_net.specs.Values.{value_at, driver_at}
use Rattle.settle.proofs.start.wake_all.Given as goal

abbrev pub invariant-loop-node : goal.invariant-loop-node
invariant-loop-node l = record {
  driven : (n : ℕ) (t : Trit) → n < l.node → driver_at l.drive n ≡ Some t → value_at l.values n ≡ t;
  undriven : (n : ℕ) → n < l.node → IsMarked l.waits n → driver_at l.drive n ≡ None;
  waiting : (n : ℕ) → n < l.node → driver_at l.drive n ≡ None → IsMarked l.waits n;
}
