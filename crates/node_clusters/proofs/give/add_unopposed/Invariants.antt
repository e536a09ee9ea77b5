use Rattle.std.proofs.Common.{◌≡◌, take}
use Rattle.std.specs.Prelude.{Contains}
use Rattle.node_clusters.specs.Spread.{Picks}
use Rattle.node_clusters.proofs.give.add_unopposed.Given as goal

abbrev pub invariant-loop-node : goal.invariant-loop-node
invariant-loop-node l =
    (l.given.room ≡ l.initial.given.room)
    × Picks (λ n. Contains l.held.members n × (Contains l.against.members n → ⊥))
    (take l.node-index l.nodes.members) l.given.members
