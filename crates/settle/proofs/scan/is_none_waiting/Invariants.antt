use Rattle.std.proofs.Common.{◌<◌, ℕ}
use Rattle.node_clusters.specs.Values.{IsMarked}
use Rattle.settle.proofs.scan.is_none_waiting.Given as goal

abbrev pub invariant-loop-waiting : goal.invariant-loop-waiting
invariant-loop-waiting l = (n : ℕ) → n < l.waiting-index → IsMarked l.waits n → ⊥
