use Rattle.std.proofs.Common.{◌≢◌, ◌<◌, ℕ, slice_index}
use Rattle.rtl_check.proofs.order.are_distinct.Given as goal

abbrev pub invariant-loop-k : goal.invariant-loop-k
invariant-loop-k l = (j m : ℕ) → j < m → m < l.k → slice_index l.order j ≢ slice_index l.order m
