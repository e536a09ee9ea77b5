-- What is settled: a network with the channels at its nodes, its drivers and its charge.
use Rattle.std.specs.Prelude.{◌≡◌, ℕ, List, length}
use Rattle.mp_base.specs.declared.value.Trit.{Trit}
use Rattle.switch_net.specs.Settled.{Setting}
use Rattle.node_clusters.specs.declared.board.Board.{Board}
use Rattle.switch_net.specs.Values.{value_at, driver_at}
use Rattle.node_clusters.specs.Links.{AreLinked, AreGated}

abbrev pub setting_of : Board → Setting
setting_of b =
    record { channels = b.network.now.channels; driver = driver_at b.drive.now; before = value_at b.before.now }

abbrev pub nodes_of : Board → ℕ
nodes_of b = b.network.now.nodes

-- there is an entry per node, and the channels are listed at their ends
pub record IsMoment (b : Board) (values : List Trit) : Type 0 where
  pub linked : AreLinked b.network.now.channels (length b.network.now.channels) b.at.now
  pub at_sized : length b.at.now ≡ b.network.now.nodes
  pub gated : AreGated b.network.now.channels b.gated.now
  pub gated_sized : length b.gated.now ≡ b.network.now.nodes
  pub drive_sized : length b.drive.now ≡ b.network.now.nodes
  pub before_sized : length b.before.now ≡ b.network.now.nodes
  pub values_sized : length values ≡ b.network.now.nodes
