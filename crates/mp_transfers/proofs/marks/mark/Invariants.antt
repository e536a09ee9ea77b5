use Rattle.std.proofs.Common.{◌-◌, length}
use Rattle.mp_transfers.proofs.Marking.{Marking}
use Rattle.mp_transfers.proofs.marks.mark.Given as goal

abbrev pub invariant-loop-f : goal.invariant-loop-f
invariant-loop-f l = Marking l.program l.roots l.number l.marks l.f l.end

abbrev pub decreases-loop-f : goal.decreases-loop-f
decreases-loop-f l = length l.program.forms - l.f
