use Rattle.switch_net.specs.Values.{driver_at}
use Rattle.settle.proofs.Waking.{RenewsFirst}
use Rattle.settle.proofs.look.renew.Given as goal

abbrev pub invariant-loop-node : goal.invariant-loop-node
invariant-loop-node l =
    RenewsFirst
    (driver_at l.board.drive.now) l.board.gated.now l.zeros.members l.ones.members l.cluster.members l.initial.values
    l.initial.waits l.node-index l.values l.waits
