use Rattle.std.proofs.Common.{◌≡◌, ◌<◌, ℕ, length, get_or}
use Rattle.node_set.proofs.set.numbers.Given as goal

abbrev pub invariant-loop-k : goal.invariant-loop-k
invariant-loop-k l = (length l.numbers.items ≡ l.k) × ((i : ℕ) → i < l.k → get_or l.numbers.items i 0 ≡ i)
