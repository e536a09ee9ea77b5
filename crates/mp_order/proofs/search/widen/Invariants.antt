use Rattle.std.proofs.Common.{◌≡◌, ◌+◌, ◌≤◌, false, if◌then◌else◌}
use Rattle.mp_order.specs.Chains.{Widened, blanks}
use Rattle.mp_order.proofs.search.widen.Given as goal

abbrev pub invariant-loop-d : goal.invariant-loop-d
invariant-loop-d l =
    Widened l.program l.demands l.d l.initial.weights l.weights × (l.grown ≡ false → l.weights ≡ l.initial.weights)
    × (blanks l.weights + (if l.grown then 1 else 0) ≤ blanks l.initial.weights)
