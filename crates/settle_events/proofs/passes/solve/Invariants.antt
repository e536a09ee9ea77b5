use Rattle.switch_net.specs.Values.{value_at}
use Rattle.node_clusters.specs.Board.{setting_of, nodes_of}
use Rattle.settle_events.specs.Climb.{unknown, Climbs}
use Rattle.node_clusters.specs.Rooms.{HaveRoom}
use Rattle.settle_events.proofs.passes.solve.Given as goal

abbrev pub invariant-loop-changed : goal.invariant-loop-changed
invariant-loop-changed l = HaveRoom (nodes_of l.board) l.sets × Climbs (setting_of l.board) (value_at l.values)

abbrev pub decreases-loop-changed : goal.decreases-loop-changed
decreases-loop-changed l = unknown l.values
