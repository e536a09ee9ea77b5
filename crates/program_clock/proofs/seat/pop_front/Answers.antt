use Rattle.std.proofs.Common.{arith}
use Rattle.program_clock.proofs.Seating.{popped}
use Rattle.program_clock.proofs.seat.pop_front.Goals as goal

pub returns-clause-rest : goal.returns-clause-rest
returns-clause-rest c =
    popped c.args.stack.now c.loop-i.stack (omega arith) (λ k lt. c.loop-i.invariant.done k (omega (arith, lt)))
