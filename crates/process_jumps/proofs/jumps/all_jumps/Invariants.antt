use Rattle.process_jumps.proofs.Jumping.{JumpsSoFar}
use Rattle.process_jumps.proofs.jumps.all_jumps.Given as goal

abbrev pub invariant-loop-process : goal.invariant-loop-process
invariant-loop-process l = JumpsSoFar l.program l.enables l.process l.fn.exprs l.exprs l.jumps
