use Rattle.process_jumps.proofs.Jumping.{FallsSoFar}
use Rattle.process_jumps.proofs.jumps.falls_of.Given as goal

abbrev pub invariant-loop-place : goal.invariant-loop-place
invariant-loop-place l = FallsSoFar l.program l.enables l.process l.place l.fn.exprs l.exprs l.falls
