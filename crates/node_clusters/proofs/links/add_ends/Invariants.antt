use Rattle.std.proofs.Common.{◌≡◌, ◌++◌, take}
use Rattle.node_clusters.proofs.links.add_ends.Given as goal

abbrev pub invariant-loop-end : goal.invariant-loop-end
invariant-loop-end l = l.list ≡ l.initial.list ++ take l.end-index l.ends
