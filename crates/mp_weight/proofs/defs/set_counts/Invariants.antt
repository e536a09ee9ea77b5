use Rattle.mp_weight.specs.Weighing.{AreSetCounts}
use Rattle.mp_weight.proofs.defs.set_counts.Given as goal

abbrev pub invariant-loop-f : goal.invariant-loop-f
invariant-loop-f l = AreSetCounts l.program l.f l.counts
