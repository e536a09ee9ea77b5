use Rattle.std.proofs.Common.{◌≡◌}
use Rattle.switch_net.specs.Values.{value_at}
use Rattle.node_clusters.specs.Board.{setting_of}
use Rattle.node_clusters.specs.Links.{listed}
use Rattle.node_clusters.specs.Spread.{Uses}
use Rattle.node_clusters.proofs.Adding.{AddsFirst}
use Rattle.node_clusters.proofs.spread.add_adjoining.Given as goal

abbrev pub invariant-loop-number : goal.invariant-loop-number
invariant-loop-number l =
    (l.set.room ≡ l.initial.set.room)
    × AddsFirst (setting_of l.board) (Uses l.route (value_at l.values)) l.node
    (listed l.board.at.now l.node) l.number-index l.initial.set.members l.set.members
