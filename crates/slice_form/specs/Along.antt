-- What the network of a placed path's fabric draws, and which nets of the fabric have the nodes.
use Rattle.std.specs.Prelude.{◌≡◌, ◌<◌, ◌≤◌, ℕ, Bool}
use Rattle.switch_net.specs.declared.network.Network.{Network}
use Rattle.fabric.specs.Switches.{Net}
use Rattle.drawing.specs.Draws.{Point, OfNet, Ground, Power, OfPhase, HasOwnNode, Draws}
use Rattle.nor_net.specs.declared.net.Phase.{Phase}
use Rattle.nor_net.specs.Elements.{Spot, Nets}
use Rattle.array_form.specs.Wires.{Wire, beat, row, trunk, to_ground, to_power}
use Rattle.slice_form.specs.Path.{Path}
use Rattle.slice_form.specs.PathWires.{Across, InPath}

-- the nodes are the network's; a net's is that of its segment, a phase's that of its trunk
pub record DrawsAlong (p : Path) (stub : ℕ → ℕ → Bool) (net_of : Wire Across → Net) (number : Net → ℕ)
    (network : Network) (nets : Nets) (node : Point → ℕ) : Type 0 where
  pub draws : Draws network.channels nets node
  pub inside : (q : Point) → HasOwnNode nets q → node q < network.nodes
  pub ground : node Ground ≡ number (net_of to_ground)
  pub power : node Power ≡ number (net_of to_power)
  pub phases : (ph : Phase) → node (OfPhase ph) ≡ number (net_of (trunk ph))
  -- and in each band that of its segment there
  pub beats : (b : ℕ) (ph : Phase) → b ≤ p.width → node (OfPhase ph) ≡ number (net_of (beat b ph))
  pub rows : (s : Spot) → InPath p stub (row s) → node (OfNet s) ≡ number (net_of (row s))
