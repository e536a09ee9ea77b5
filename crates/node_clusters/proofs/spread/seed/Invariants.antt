use Rattle.std.proofs.Common.{◌≡◌, take}
use Rattle.switch_net.specs.Values.{value_at}
use Rattle.node_clusters.specs.Board.{setting_of}
use Rattle.node_clusters.specs.Spread.{Uses, IsSource, Borders, Picks}
use Rattle.node_clusters.proofs.spread.seed.Given as goal

abbrev pub invariant-loop-node : goal.invariant-loop-node
invariant-loop-node l =
    (l.set.room ≡ l.initial.set.room)
    × Picks (Borders (setting_of l.board) (Uses l.route (value_at l.values)) (IsSource l.source (setting_of l.board)))
    (take l.node-index l.cluster.members) l.set.members
