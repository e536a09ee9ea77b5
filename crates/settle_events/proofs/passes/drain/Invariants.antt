use Rattle.std.proofs.Common.{◌≤◌}
use Rattle.switch_net.specs.Values.{value_at}
use Rattle.node_clusters.specs.Board.{setting_of, nodes_of}
use Rattle.settle_events.specs.Climb.{unknown, Climbs}
use Rattle.node_clusters.specs.Rooms.{HaveRoom}
use Rattle.settle_events.proofs.passes.drain.Given as goal

abbrev pub invariant-loop-round : goal.invariant-loop-round
invariant-loop-round l =
    HaveRoom (nodes_of l.board) l.sets × Climbs (setting_of l.board) (value_at l.values)
    × (unknown l.values ≤ unknown l.initial.values)
