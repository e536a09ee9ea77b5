use Rattle.process_layout.proofs.Ordered.{AreOrdered}
use Rattle.process_layout.proofs.laying.order_of.Given as goal

abbrev pub invariant-loop-definition : goal.invariant-loop-definition
invariant-loop-definition l = AreOrdered l.laid.roles l.order l.definition-index l.cells
