use Rattle.std.proofs.Common.{ℕ, take, ◌⊎◌}
use Rattle.std.specs.Prelude.{Contains}
use Rattle.node_clusters.specs.Values.{IsMarked}
use Rattle.settle_events.proofs.evaluate.mark.Given as goal

abbrev pub invariant-loop-node : goal.invariant-loop-node
invariant-loop-node l = (n : ℕ) → IsMarked l.marks n
    → IsMarked l.initial.marks n ⊎ Contains (take l.node-index l.set.members) n
