use Rattle.node_clusters.specs.Board.{setting_of, nodes_of}
use Rattle.node_clusters.specs.Rooms.{HaveRoom}
use Rattle.settle.specs.Start.{IsReady}
use Rattle.settle.proofs.scan.scan.Given as goal

abbrev pub invariant-loop-node : goal.invariant-loop-node
invariant-loop-node l = HaveRoom (nodes_of l.board) l.sets × IsReady (setting_of l.board) l.values l.waits
