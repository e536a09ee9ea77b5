use Rattle.mp_transfers.specs.Tables.{IsFound}
use Rattle.mp_transfers.proofs.Entries.{Done}
use Rattle.mp_transfers.proofs.tables.firsts.Given as goal

abbrev pub invariant-loop-f : goal.invariant-loop-f
invariant-loop-f l = Done l.program (IsFound l.program l.sought) l.f l.table
