use Rattle.union_find.proofs.forest.find.Given as goal
use Rattle.union_find.proofs.Finding.{IsFound}

abbrev pub invariant-loop-parents : goal.invariant-loop-parents
invariant-loop-parents l = IsFound l.fn.parents l.fn.thing l.parents l.x

abbrev pub decreases-loop-parents : goal.decreases-loop-parents
decreases-loop-parents l = l.x
