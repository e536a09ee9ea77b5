-- Orders that are kept.
use Rattle.std.proofs.Common.{ℕ, List, Option, refl, subst}
use Rattle.std.specs.Prelude.{Any}
use Rattle.mp_base.specs.declared.value.Trit.{Trit}
use Rattle.switch_net.specs.declared.network.Channel.{Channel}
use Rattle.settle_order.specs.declared.order.Order.{Order}
use Rattle.settle_order.specs.Order.{IsServing, Serves, rank_at}
use Rattle.switch_net.specs.Values.{driver_at}
use Rattle.settle_order.specs.Orders.{Orderings, IsSound, AreSound, HasOrder}

pub order_from : (channels : List Channel) (orderings : Orderings) (drive : List (Option Trit))
    → AreSound channels orderings → Any (IsServing drive) orderings.orders → (before : ℕ → Trit)
    → HasOrder (record { channels = channels; driver = driver_at drive; before = before })
order_from channels orderings drive sound any before =
    let o : Order = any.1 in
    let serves : Serves channels o.demands.items o.ranks.items =
    subst (IsSound channels) any.3 (sound any.0 any.1 any.2) any.4.0 in (
      rank_at o.ranks.items,
      serves
          (record { channels = channels; driver = driver_at drive; before = before }) refl any.4.1,
    )
