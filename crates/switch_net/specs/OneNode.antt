-- What a network's lists must say of its nodes.
use Rattle.std.specs.Prelude.{◌≡◌, ℕ, ◌<◌, List, All, Contains}
use Rattle.switch_net.specs.declared.network.Channel.{Channel}
use Rattle.switch_net.specs.declared.network.Tag.{Tag}

-- labels of one name are on one node
abbrev pub OneNodeEach : List Tag → Type 0
OneNodeEach tags = (a b : Tag) → Contains tags a → Contains tags b → a.name ≡ b.name → a.node ≡ b.node

-- gates, ends and labelled nodes are among so many nodes
pub record AreAmong (nodes : ℕ) (channels : List Channel) (tags : List Tag) : Type 0 where
  pub gates : All (λ c. c.gate < nodes) channels
  pub ends : All (λ c. All (λ e. e < nodes) c.ends) channels
  pub labels : All (λ t. t.node < nodes) tags
