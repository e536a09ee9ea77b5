use Rattle.std.proofs.Common.{◌≡◌}
use Rattle.mp_order.specs.Tables.{Lifted}
use Rattle.mp_order.proofs.Tables.{Among}
use Rattle.mp_order.proofs.table.lift_all.Given as goal

abbrev pub invariant-loop-index : goal.invariant-loop-index
invariant-loop-index l = Lifted (λ i k. Among l.index-index l.indices i × (k ≡ l.value)) l.initial.numbers l.numbers
