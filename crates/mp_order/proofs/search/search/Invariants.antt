use Rattle.mp_order.proofs.Ordering.{Ordering}
use Rattle.mp_order.proofs.search.search.Given as goal

abbrev pub invariant-loop-d : goal.invariant-loop-d
invariant-loop-d l = Ordering l.program l.d l.closed l.order.items
