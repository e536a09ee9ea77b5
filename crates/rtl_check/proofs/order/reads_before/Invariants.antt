use Rattle.std.proofs.Common.{◌≡◌, ◌<◌, ℕ, take, slice_index}
use Rattle.rtl_check.specs.Reading.{BothReadOnly}
use Rattle.rtl_check.proofs.order.reads_before.Given as goal

abbrev pub invariant-loop-k : goal.invariant-loop-k
invariant-loop-k l = (j : ℕ) → j < l.k → slice_index l.order j ≡ l.transfer.target
    → BothReadOnly l.rtl (take j l.order) l.transfer
