-- What an order asks of drivers, and when its ranks are an order.
use Rattle.std.specs.Prelude.{◌≡◌, ◌<◌, ℕ, true, List, Option, Some, None, IsSome, Contains, length, slice_index_or}
use Rattle.mp_base.specs.declared.value.Trit.{Trit}
use Rattle.mp_base.specs.declared.value.Trit.TheVariants.{Zero}
use Rattle.switch_net.specs.declared.network.ChannelKind.TheVariants.{Enhancement}
use Rattle.switch_net.specs.declared.network.Channel.{Channel}
use Rattle.switch_net.specs.Settled.{Setting}
use Rattle.switch_net.specs.Values.{driver_at}
use Rattle.settle_laws.specs.Ordered.{IsOrdered}
use Rattle.settle_order.specs.declared.order.Demand.{Demand}
use Rattle.settle_order.specs.declared.order.Demand.TheVariants.{Undriven, Driven, Low}
use Rattle.settle_order.specs.declared.order.Order.{Order}

abbrev pub Fits : Demand → Option Trit → Type 0
Fits Undriven driver = driver ≡ None
Fits Driven driver = IsSome driver
Fits Low driver = driver ≡ Some Zero

-- what is asked of a node: a number that is no node's is undriven
abbrev pub demand_at : List Demand → ℕ → Demand
demand_at demands n = slice_index_or demands n Undriven

abbrev pub rank_at : List ℕ → ℕ → ℕ
rank_at ranks n = slice_index_or ranks n 0

-- each driver is as it is asked
abbrev pub FitAll : List Demand → List (Option Trit) → Type 0
FitAll demands drive = (n : ℕ) → Fits (demand_at demands n) (driver_at drive n)

-- what an order's ranks must be at a channel, by what is asked
pub record IsChannelOrdered (demands : List Demand) (ranks : List ℕ) (c : Channel) : Type 0 where
  pub gate : (e : ℕ) → c.kind ≡ Enhancement → demand_at demands c.gate ≡ Undriven → Contains c.ends e
      → demand_at demands e ≡ Undriven → rank_at ranks c.gate < rank_at ranks e
  pub joined : (a b : ℕ) → ¬ ((c.kind ≡ Enhancement) × (demand_at demands c.gate ≡ Low)) → Contains c.ends a
      → Contains c.ends b → demand_at demands a ≡ Undriven → demand_at demands b ≡ Undriven
      → rank_at ranks a ≡ rank_at ranks b

-- the ranks order each setting of these channels whose drivers are as they are asked
abbrev pub Serves : List Channel → List Demand → List ℕ → Type 0
Serves channels demands ranks = (s : Setting) → s.channels ≡ channels
    → ((n : ℕ) → Fits (demand_at demands n) (s.driver n)) → IsOrdered s (rank_at ranks)

-- an entry for each of so many nodes
pub record AreRoomy (room : ℕ) (order : Order) : Type 0 where
  pub demands : length order.demands.items ≡ room
  pub ranks : length order.ranks.items ≡ room
  pub nodes : length order.nodes.items ≡ room

-- an order that was made, for drivers that are as it asks
abbrev pub IsServing : List (Option Trit) → Order → Type 0
IsServing drive order = (order.made ≡ true) × FitAll order.demands.items drive
