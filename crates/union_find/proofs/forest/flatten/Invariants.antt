use Rattle.union_find.proofs.forest.flatten.Given as goal
use Rattle.union_find.proofs.Finding.{IsFlat}

abbrev pub invariant-loop-i : goal.invariant-loop-i
invariant-loop-i l = IsFlat l.fn.parents l.parents l.i
