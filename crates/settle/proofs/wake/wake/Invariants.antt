use Rattle.switch_net.specs.Values.{driver_at}
use Rattle.settle.proofs.Waking.{WakesFirst}
use Rattle.settle.proofs.wake.wake.Given as goal

abbrev pub invariant-loop-node : goal.invariant-loop-node
invariant-loop-node l = WakesFirst (driver_at l.drive) l.nodes l.node-index l.initial.waits l.waits
