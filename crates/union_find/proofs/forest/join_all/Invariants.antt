use Rattle.union_find.specs.Roots.{AreJoined}
use Rattle.union_find.proofs.forest.join_all.Given as goal

abbrev pub invariant-loop-pair : goal.invariant-loop-pair
invariant-loop-pair l = AreJoined l.pairs l.pair-index l.parents
