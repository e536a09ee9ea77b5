use Rattle.mp_transfers.specs.Tables.{IsSecond}
use Rattle.mp_transfers.proofs.Entries.{Done}
use Rattle.mp_transfers.proofs.transfers.seconds.Given as goal

abbrev pub invariant-loop-f : goal.invariant-loop-f
invariant-loop-f l = Done l.program (IsSecond l.program) l.f l.table
