use Rattle.switch_net.specs.Values.{driver_at}
use Rattle.node_clusters.specs.Links.{listed}
use Rattle.settle.proofs.Waking.{BesideFirst}
use Rattle.settle.proofs.wake.wake_beside.Given as goal

abbrev pub invariant-loop-number : goal.invariant-loop-number
invariant-loop-number l =
    BesideFirst (driver_at l.board.drive.now) l.board.network.now.channels
    (listed l.board.at.now l.node) l.number-index l.initial.waits l.waits
