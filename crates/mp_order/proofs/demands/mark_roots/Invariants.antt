use Rattle.std.proofs.Common.{◌≡◌}
use Rattle.mp_order.specs.Tables.{Lifted}
use Rattle.mp_order.proofs.Marks.{RootBelow}
use Rattle.mp_order.proofs.demands.mark_roots.Given as goal

abbrev pub invariant-loop-process : goal.invariant-loop-process
invariant-loop-process l = Lifted (λ f k. RootBelow l.program l.process-index f × (k ≡ 1)) l.fn.marks l.marks
