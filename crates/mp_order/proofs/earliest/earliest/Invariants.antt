use Rattle.mp_order.proofs.Settings.{EarliestBelow}
use Rattle.mp_order.proofs.earliest.earliest.Given as goal

abbrev pub invariant-loop-n : goal.invariant-loop-n
invariant-loop-n l = EarliestBelow l.program l.meanings l.flags l.n l.found
