use Rattle.std.proofs.Common.{ℕ, take, ◌⊎◌}
use Rattle.std.specs.Prelude.{Contains}
use Rattle.node_clusters.specs.Values.{IsMarked}
use Rattle.settle.proofs.wake.rest.Given as goal

abbrev pub invariant-loop-node : goal.invariant-loop-node
invariant-loop-node l =
    ((n : ℕ) → IsMarked l.waits n → IsMarked l.initial.waits n)
    × ((n : ℕ) → IsMarked l.initial.waits n → IsMarked l.waits n ⊎ Contains (take l.node-index l.set.members) n)
