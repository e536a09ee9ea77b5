use Rattle.written_counts.proofs.PieceCosts.{AreFirstCosts}
use Rattle.written_counts.proofs.costs.weights.Given as goal

abbrev pub invariant-loop-e : goal.invariant-loop-e
invariant-loop-e l = AreFirstCosts l.program l.e l.costs
