-- Sets that have room for each node, and what they hold after a look.
use Rattle.std.specs.Prelude.{◌≡◌, ℕ, Contains}
use Rattle.mp_base.specs.declared.value.Trit.{Trit}
use Rattle.mp_base.specs.declared.value.Trit.TheVariants.{Zero, One}
use Rattle.switch_net.specs.Settled.{Setting, Gives}
use Rattle.node_clusters.specs.declared.sets.Sets.{Sets}
use Rattle.node_clusters.specs.Spread.{Picks}
use Rattle.node_clusters.specs.Give.{IsCluster}

pub record HaveRoom (nodes : ℕ) (sets : Sets) : Type 0 where
  pub cluster : sets.cluster.room ≡ nodes
  pub held : sets.held.room ≡ nodes
  pub against : sets.against.room ≡ nodes
  pub zeros : sets.zeros.room ≡ nodes
  pub ones : sets.ones.room ≡ nodes

-- the cluster of a node, and of its nodes those that are given 0 and those that are given 1
pub record HoldCluster (s : Setting) (v : ℕ → Trit) (node : ℕ) (sets : Sets) : Type 0 where
  pub cluster : IsCluster s v sets.cluster.members
  pub own : Contains sets.cluster.members node
  pub zeros : Picks (λ n. Gives s v n Zero) sets.cluster.members sets.zeros.members
  pub ones : Picks (λ n. Gives s v n One) sets.cluster.members sets.ones.members
