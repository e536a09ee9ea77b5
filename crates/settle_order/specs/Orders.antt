-- Orders that are kept for a network.
use Rattle.std.specs.Prelude.{◌≡◌, ℕ, List, true, All}
use Rattle.switch_net.specs.declared.network.Channel.{Channel}
use Rattle.switch_net.specs.Settled.{Setting}
use Rattle.settle_laws.specs.Ordered.{IsOrdered}
use Rattle.settle_order.specs.declared.order.Order.{Order}
use Rattle.settle_order.specs.Order.{Serves}

-- the orders, and the number that all nodes are below
pub record Orderings : Type 0 where
  pub room : ℕ
  pub orders : List Order

-- an order that was made serves these channels
abbrev pub IsSound : List Channel → Order → Type 0
IsSound channels order = order.made ≡ true → Serves channels order.demands.items order.ranks.items

abbrev pub AreSound : List Channel → Orderings → Type 0
AreSound channels orderings = All (IsSound channels) orderings.orders

-- there are ranks that order the setting
abbrev pub HasOrder : Setting → Type 0
HasOrder s = (rank : ℕ → ℕ) × IsOrdered s rank
