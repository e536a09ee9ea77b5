use Rattle.std.proofs.Common.{ℕ, ◌<◌, slice_index}
use Rattle.rtl_check.specs.Reading.{ReadsOnly}
use Rattle.rtl_check.proofs.order.+reads_only.Given as goal

abbrev pub decreases-reads_only : goal.decreases-reads_only
decreases-reads_only l = l.expr

abbrev pub invariant-loop-arg : goal.invariant-loop-arg
invariant-loop-arg l = (j : ℕ) → j < l.arg-index → ReadsOnly l.rtl l.known (slice_index l.arg-items j)
