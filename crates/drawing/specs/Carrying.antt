-- Drawings are carried over by renumberings.
use Rattle.std.specs.Prelude.{ℕ, ◌<◌}
use Rattle.switch_net.specs.declared.network.Network.{Network}
use Rattle.renumbering.specs.Same.{Renumbering}
use Rattle.nor_net.specs.Elements.{Nets}
use Rattle.drawing.specs.Draws.{Point, HasOwnNode, Draws}

-- a network that is the same up to numbering as one that draws nets draws those nets
abbrev pub DrawingsCarryOver : Type 0
DrawingsCarryOver =
    (n m : Network) (r : Renumbering n m) (nets : Nets) (node : Point → ℕ)
    → ((p : Point) → HasOwnNode nets p → node p < m.nodes) → Draws m.channels nets node
    → Draws n.channels nets (λ p. r.node_back (node p))
