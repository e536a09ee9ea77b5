use Rattle.written_meanings.proofs.MeantExprs.{AreMeant}
use Rattle.written_meanings.proofs.meanings.meanings_of.Given as goal

abbrev pub invariant-loop-e : goal.invariant-loop-e
invariant-loop-e l = AreMeant l.program l.e l.exprs
