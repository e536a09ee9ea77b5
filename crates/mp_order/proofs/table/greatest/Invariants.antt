use Rattle.std.proofs.Common.{◌≡◌, ℕ, ◌<◌, ◌≤◌, get_or}
use Rattle.mp_order.proofs.table.greatest.Given as goal

abbrev pub invariant-loop-index : goal.invariant-loop-index
invariant-loop-index l = ((j : ℕ) → j < l.index-index → get_or l.numbers (get_or l.indices j 0) 0 ≤ l.highest)
    × (0 < l.highest → (j : ℕ) × (j < l.index-index) × (get_or l.numbers (get_or l.indices j 0) 0 ≡ l.highest))
