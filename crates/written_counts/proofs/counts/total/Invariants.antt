use Rattle.written_counts.proofs.Totalled.{IsTotal}
use Rattle.written_counts.proofs.counts.total.Given as goal

abbrev pub invariant-loop-e : goal.invariant-loop-e
invariant-loop-e l = IsTotal (l.counting).measure (l.counting).program.now (l.counting).cap l.e l.sum
