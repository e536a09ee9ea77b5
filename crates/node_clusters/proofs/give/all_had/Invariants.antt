use Rattle.std.proofs.Common.{◌≡◌, ◌<◌, ℕ, get_or}
use Rattle.switch_net.specs.Values.{value_at}
use Rattle.node_clusters.proofs.give.all_had.Given as goal

abbrev pub invariant-loop-node : goal.invariant-loop-node
invariant-loop-node l =
    (k : ℕ) → k < l.node-index → value_at l.before (get_or l.set.members k 0) ≡ l.value
