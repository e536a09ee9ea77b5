use Rattle.std.proofs.Common.{◌≡◌, take}
use Rattle.node_clusters.specs.Spread.{Picks}
use Rattle.node_clusters.proofs.give.copy.Given as goal

abbrev pub invariant-loop-node : goal.invariant-loop-node
invariant-loop-node l =
    (l.to.room ≡ l.initial.to.room) × Picks (λ _. Unit {0}) (take l.node-index l.from.members) l.to.members
