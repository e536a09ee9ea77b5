use Rattle.std.proofs.Common.{◌≡◌, ◌-◌}
use Rattle.switch_net.specs.Values.{value_at}
use Rattle.node_clusters.specs.Board.{setting_of}
use Rattle.node_clusters.specs.Spread.{Uses}
use Rattle.node_clusters.proofs.Adding.{GrowsFirst}
use Rattle.node_clusters.proofs.spread.grow.Given as goal

abbrev pub invariant-loop-next : goal.invariant-loop-next
invariant-loop-next l =
    (l.set.room ≡ l.initial.set.room)
    × GrowsFirst (setting_of l.board) (Uses l.route (value_at l.values)) l.next l.initial.set.members l.set.members

abbrev pub decreases-loop-next : goal.decreases-loop-next
decreases-loop-next l = l.set.room - l.next
