use Rattle.union_find.proofs.forest.apart.Given as goal
use Rattle.union_find.proofs.Finding.{IsCounted}

abbrev pub invariant-loop-thing : goal.invariant-loop-thing
invariant-loop-thing l = IsCounted l.parents.items l.thing
