use Rattle.std.proofs.Common.{◌<◌, ℕ, get_or}
use Rattle.switch_net.specs.declared.network.Channel.{Channel}
use Rattle.switch_net.specs.Values.{value_at}
use Rattle.node_clusters.specs.Board.{setting_of}
use Rattle.node_clusters.specs.Links.{listed}
use Rattle.node_clusters.specs.Spread.{Uses, IsSource}
use Rattle.node_clusters.proofs.Adding.{NoBorder}
use Rattle.node_clusters.proofs.spread.borders.Given as goal

abbrev pub invariant-loop-number : goal.invariant-loop-number
invariant-loop-number l =
    (k : ℕ) (c : Channel) → k < l.number-index
    → NoBorder (setting_of l.board) (Uses l.route (value_at l.values)) (IsSource l.source (setting_of l.board))
    (get_or (setting_of l.board).channels (get_or (listed l.board.at.now l.node) k 0) c)
