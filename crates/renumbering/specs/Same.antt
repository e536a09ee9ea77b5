-- Networks that are the same up to the numbers of nodes and channels.
use Rattle.std.specs.Prelude.{ℕ, ◌≡◌, ◌↔◌, ◌<◌, length, slice_index_or, Contains}
use Rattle.std.specs.List.{AllZip}
use Rattle.switch_net.specs.declared.network.Channel.{Channel}
use Rattle.switch_net.specs.declared.network.Tag.{Tag}
use Rattle.switch_net.specs.declared.network.Network.{Network}

-- the numbers below one count stand one to one for those below another
pub record AreOneToOne (from to : ℕ) (there back : ℕ → ℕ) : Type 0 where
  pub within : (k : ℕ) → k < from → there k < to
  pub back_within : (k : ℕ) → k < to → back k < from
  pub there_back : (k : ℕ) → k < from → back (there k) ≡ k
  pub back_there : (k : ℕ) → k < to → there (back k) ≡ k

-- two channels are the same but for the numbers of their nodes
pub record SameChannel (node : ℕ → ℕ) (c d : Channel) : Type 0 where
  pub gate : node c.gate ≡ d.gate
  pub ends : (e : ℕ) → Contains d.ends e ↔ ((k : ℕ) × Contains c.ends k × (node k ≡ e))
  pub kind : c.kind ≡ d.kind

-- one-to-one maps of the nodes and of the channels keep the gate, the ends and the kind of each channel
pub record Renumbering (n m : Network) : Type 0 where
  pub node : ℕ → ℕ
  pub node_back : ℕ → ℕ
  pub channel : ℕ → ℕ
  pub channel_back : ℕ → ℕ
  pub nodes : AreOneToOne n.nodes m.nodes node node_back
  pub channels : AreOneToOne (length n.channels) (length m.channels) channel channel_back
  pub same : (k : ℕ) (d e : Channel) → k < length n.channels
      → SameChannel node (slice_index_or n.channels k d) (slice_index_or m.channels (channel k) e)

-- the labels are the same, each on the node that stands for its node
pub record SameTag (node : ℕ → ℕ) (t u : Tag) : Type 0 where
  pub name : t.name ≡ u.name
  pub node_is : node t.node ≡ u.node

-- and they keep the node of each label
pub record SameUpToNumbering (n m : Network) : Type 0 where
  pub numbers : Renumbering n m
  pub tags : AllZip (SameTag numbers.node) n.tags m.tags

-- what the nodes of one network have, the nodes that stand for them have in the other
abbrev pub AreAlike : {V : Type 0} (n m : Network) → Renumbering n m → (ℕ → V) → (ℕ → V) → Type 0
AreAlike n m r v w = (k : ℕ) → k < n.nodes → v k ≡ w (r.node k)
