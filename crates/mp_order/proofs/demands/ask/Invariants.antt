use Rattle.mp_order.specs.Tables.{Lifted}
use Rattle.mp_order.specs.Demands.{Asks}
use Rattle.mp_order.proofs.demands.ask.Given as goal

abbrev pub invariant-loop-n : goal.invariant-loop-n
invariant-loop-n l = Lifted (Asks l.program l.meanings l.tops l.marks l.n) l.initial.demands l.demands
