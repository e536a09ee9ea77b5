use Rattle.process_jumps.proofs.Growing.{NegationsSoFar}
use Rattle.process_jumps.proofs.exprs.with_negations.Given as goal

abbrev pub invariant-loop-other : goal.invariant-loop-other
invariant-loop-other l = NegationsSoFar l.fn.exprs l.exprs l.first l.others l.other-index l.args
