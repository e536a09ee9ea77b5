use Rattle.process_transfers.proofs.Serving.{MotionsSoFar}
use Rattle.process_transfers.proofs.roles.motion_transfers.Given as goal

abbrev pub invariant-loop-cell : goal.invariant-loop-cell
invariant-loop-cell l =
    MotionsSoFar l.program l.layout.roles l.layout.cells l.control l.motion l.cell l.fn.transfers l.transfers
