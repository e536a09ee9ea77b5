use Rattle.mp_order.proofs.Marks.{Marking}
use Rattle.mp_order.proofs.demands.marks.Given as goal

abbrev pub invariant-loop-n : goal.invariant-loop-n
invariant-loop-n l = Marking l.program l.tops l.n l.marks
