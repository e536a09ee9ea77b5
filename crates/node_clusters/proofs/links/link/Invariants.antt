use Rattle.std.proofs.Common.{take}
use Rattle.node_clusters.specs.Links.{AddsLink}
use Rattle.node_clusters.proofs.links.link.Given as goal

abbrev pub invariant-loop-node : goal.invariant-loop-node
invariant-loop-node l = AddsLink (take l.node-index l.nodes) l.number l.initial.lists l.lists
