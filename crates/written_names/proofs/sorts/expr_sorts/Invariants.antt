use Rattle.written_names.proofs.ScopeSorts.{AreFirstSorts}
use Rattle.written_names.proofs.sorts.expr_sorts.Given as goal

abbrev pub invariant-loop-e : goal.invariant-loop-e
invariant-loop-e l = AreFirstSorts l.program l.e l.sorts
