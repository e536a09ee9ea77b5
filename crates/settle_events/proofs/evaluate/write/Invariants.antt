use Rattle.settle_events.proofs.Climbing.{WritesFirst}
use Rattle.settle_events.proofs.evaluate.write.Given as goal

abbrev pub invariant-loop-node : goal.invariant-loop-node
invariant-loop-node l = WritesFirst l.given.members l.node-index l.value l.changed l.initial.values l.values
