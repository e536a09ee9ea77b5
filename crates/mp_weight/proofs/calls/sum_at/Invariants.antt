use Rattle.std.proofs.Common.{◌≡◌, ◌+◌, take, min, slice_index}
use Rattle.std.specs.List.{sum_by}
use Rattle.mp_weight.proofs.calls.sum_at.Given as goal

abbrev pub invariant-loop-index : goal.invariant-loop-index
invariant-loop-index l = l.sum ≡ min l.cap (l.start + sum_by (slice_index l.numbers) (take l.index-index l.indices))
