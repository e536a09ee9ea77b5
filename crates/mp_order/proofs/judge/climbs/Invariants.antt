use Rattle.std.proofs.Common.{◌≢◌, ◌<◌, ◌≤◌, ℕ, get_or}
use Rattle.mp_order.proofs.judge.climbs.Given as goal

abbrev pub invariant-loop-d : goal.invariant-loop-d
invariant-loop-d l = (e : ℕ) → e < l.d
    → (get_or l.weights e 0 ≤ l.top)
    × (0 < get_or l.weights e 0 → e ≢ l.target → get_or l.weights e 0 < get_or l.demands e 0)
