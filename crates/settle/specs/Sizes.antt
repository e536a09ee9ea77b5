-- What a settler holds for each node.
use Rattle.std.specs.Prelude.{◌≡◌, ℕ, List, Option, Bool, length}
use Rattle.mp_base.specs.declared.value.Trit.{Trit}
use Rattle.switch_net.specs.declared.network.Network.{Network}
use Rattle.node_clusters.specs.declared.sets.Sets.{Sets}
use Rattle.switch_net.specs.Settled.{IsSettled}
use Rattle.settle_order.specs.Orders.{Orderings, AreSound}
use Rattle.switch_net.specs.Values.{value_at, driver_at}
use Rattle.node_clusters.specs.Links.{AreLinked, AreGated}
use Rattle.node_clusters.specs.Rooms.{HaveRoom}

pub record AreSized (network : Network) (at ends : List (List ℕ)) (values before : List Trit)
    (last : List (Option Trit)) (sets : Sets) (marks : List Bool) : Type 0 where
  pub linked : AreLinked network.channels (length network.channels) at
  pub at_sized : length at ≡ network.nodes
  pub gated : AreGated network.channels ends
  pub gated_sized : length ends ≡ network.nodes
  pub values_sized : length values ≡ network.nodes
  pub before_sized : length before ≡ network.nodes
  pub last_sized : length last ≡ network.nodes
  pub rooms : HaveRoom network.nodes sets
  pub marks_sized : length marks ≡ network.nodes

-- orders for the network, which serve it
pub record AreReady (network : Network) (orders : Orderings) : Type 0 where
  pub room : orders.room ≡ network.nodes
  pub sound : AreSound network.channels orders

-- values that are settled where these are the drivers, with themselves as the charge
abbrev pub AreAtRest : Network → List (Option Trit) → List Trit → Type 0
AreAtRest network last values =
    IsSettled (record { channels = network.channels; driver = driver_at last; before = value_at values })
    (value_at values)
