use Rattle.std.proofs.Common.{◌≡◌, ◌<◌, ℕ, get_or}
use Rattle.settle_order.specs.declared.order.Demand.TheVariants.{Undriven}
use Rattle.settle_order.specs.Order.{demand_at, rank_at}
use Rattle.settle_order.proofs.check.are_level.Given as goal

abbrev pub invariant-loop-end : goal.invariant-loop-end
invariant-loop-end l =
    (k : ℕ) → k < l.end-index → demand_at l.demands (get_or l.ends k 0) ≡ Undriven
    → rank_at l.ranks (get_or l.ends k 0) ≡ l.rank
