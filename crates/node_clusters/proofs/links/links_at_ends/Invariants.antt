use Rattle.std.proofs.Common.{◌≡◌, length}
use Rattle.node_clusters.specs.Links.{AreLinked}
use Rattle.node_clusters.proofs.links.links_at_ends.Given as goal

abbrev pub invariant-loop-channel : goal.invariant-loop-channel
invariant-loop-channel l =
    (length l.lists.items ≡ l.network.nodes) × (l.number ≡ l.channel-index)
    × AreLinked l.network.channels l.number l.lists.items
