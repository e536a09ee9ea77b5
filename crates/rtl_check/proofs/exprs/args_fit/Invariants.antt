use Rattle.std.proofs.Common.{ℕ, ◌<◌, slice_index}
use Rattle.rtl_check.specs.Parts.{ArgFits}
use Rattle.rtl_check.proofs.exprs.args_fit.Given as goal

abbrev pub invariant-loop-k : goal.invariant-loop-k
invariant-loop-k l = (j : ℕ) → j < l.k → ArgFits l.rtl l.index l.words (slice_index l.args j)
