use Rattle.settle_events.proofs.Passing.{PassesFirst}
use Rattle.settle_events.proofs.passes.pass.Given as goal

abbrev pub invariant-loop-node : goal.invariant-loop-node
invariant-loop-node l = PassesFirst l.board l.node l.changed l.sets l.looked l.initial.values l.values
