use Rattle.settle_order.proofs.Checking.{OrderedFirst}
use Rattle.settle_order.proofs.check.is_order.Given as goal

abbrev pub invariant-loop-channel : goal.invariant-loop-channel
invariant-loop-channel l = OrderedFirst l.network.channels l.demands l.ranks l.channel-index
