-- The nodes of pads.
use Rattle.std.specs.Prelude.{ℕ, List}
use Rattle.std.specs.List.{AllZip}
use Rattle.mp_base.specs.declared.pad.Pad.{Pad}
use Rattle.mp_base.specs.declared.pad.Pads.{Pads}
use Rattle.mp_base.specs.PadNames.{supplies}
use Rattle.switch_net.specs.declared.network.Network.{Network}
use Rattle.switch_net.specs.Clock.{IsLabelled}
use Rattle.switch_net.specs.Pads.{bit_labels}
use Rattle.switch_net.specs.Breaks.{HasPads}

-- the nodes of the bits of a pad
abbrev pub AreNodesOf : Network → Pad → List ℕ → Type 0
AreNodesOf net pad nodes = AllZip (IsLabelled net) (bit_labels pad) nodes

-- the nodes of power, ground and phases, and of the bits of pads
pub record IsPlan (net : Network) (pads : Pads) (supply_nodes : List ℕ) (inputs outputs : List (List ℕ)) : Type 0 where
  pub has_pads : HasPads net pads
  pub supply : AllZip (IsLabelled net) supplies supply_nodes
  pub input : AllZip (AreNodesOf net) pads.inputs inputs
  pub output : AllZip (AreNodesOf net) pads.outputs outputs
