use Rattle.std.proofs.Common.{◌≡◌, length}
use Rattle.node_clusters.proofs.Linking.{GatedFirst}
use Rattle.node_clusters.proofs.links.ends_gated.Given as goal

abbrev pub invariant-loop-channel : goal.invariant-loop-channel
invariant-loop-channel l =
    (length l.lists.items ≡ l.network.nodes) × GatedFirst l.network.channels l.channel-index l.lists.items
