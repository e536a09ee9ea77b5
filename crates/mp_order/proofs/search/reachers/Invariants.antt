use Rattle.mp_order.specs.Chains.{blanks}
use Rattle.mp_order.proofs.Reaching.{Reaching}
use Rattle.mp_order.proofs.search.reachers.Given as goal

abbrev pub invariant-spread : goal.invariant-spread
invariant-spread l = Reaching l.program l.target l.weights

abbrev pub decreases-spread : goal.decreases-spread
decreases-spread l = blanks l.weights
