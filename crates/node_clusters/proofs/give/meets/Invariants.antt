use Rattle.std.proofs.Common.{◌<◌, ℕ, get_or}
use Rattle.switch_net.specs.Settled.{MayBeOn}
use Rattle.switch_net.specs.Values.{value_at}
use Rattle.node_clusters.specs.Board.{setting_of}
use Rattle.node_clusters.specs.Spread.{IsSource, Borders}
use Rattle.node_clusters.proofs.give.meets.Given as goal

abbrev pub invariant-loop-node : goal.invariant-loop-node
invariant-loop-node l =
    (k : ℕ) → k < l.node-index
    → Borders (setting_of l.board) (MayBeOn (value_at l.values)) (IsSource l.source (setting_of l.board))
    (get_or l.cluster.members k 0) → ⊥
