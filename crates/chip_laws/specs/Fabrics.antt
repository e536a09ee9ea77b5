-- From the fabric to extracted networks.
use Rattle.std.specs.Prelude.{◌≡◌, ◌<◌, ℕ, List}
use Rattle.std.specs.List.{AllZip}
use Rattle.mp_base.specs.declared.pad.Pads.{Pads}
use Rattle.lam_geom.specs.declared.label.FlatLabel.{FlatLabel}
use Rattle.lam_geom.specs.Squares.{covered}
use Rattle.switch_net.specs.declared.network.Network.{Network}
use Rattle.switch_net.specs.Drawn.{IsNetwork}
use Rattle.switch_net.specs.Pads.{chip_labels}
use Rattle.nor_net.specs.Elements.{Spot, Nets}
use Rattle.drawing.specs.Draws.{Point, HasOwnNode, Draws}
use Rattle.fabric.specs.Plan.{Plan, IsFabric}
use Rattle.fabric.specs.Shape.{shape}
use Rattle.fabric.specs.Switches.{Net, IsNet, AreSwitches}
use Rattle.fabric_laws.specs.Theorem.{IsLabelOn}
use Rattle.fabric.specs.declared.chip.ChipLabel.{ChipLabel}
use Rattle.fabric.specs.Labelled.{IsLabelOf, AreLabelsOf}
use Rattle.chip_laws.specs.Laws.{points, names_of, IsExtracted}

-- the label is on a net of the fabric, with the number of this point's place
pub record IsAt (f : Plan) (number : Net → ℕ) (place : Point → ℕ) (at : Point) (label : ChipLabel) : Type 0 where
  pub net : Net
  pub is : IsNet f net
  pub here : number net ≡ place at
  pub on : (flat : FlatLabel) → IsLabelOf label flat → IsLabelOn f net flat

-- A fabric whose switches draw a net, with the chip's labels on the nets of its points, is that of each network that
-- is extracted from
-- its squares.
abbrev pub FabricLays : Type 0
FabricLays =
    (f : Plan) → IsFabric f → (m : Network) (number : Net → ℕ) → AreSwitches f number m
    → (pads : Pads) (net : Nets) (ins outs : List (List Spot)) (place : Point → ℕ) → Draws m.channels net place
    → ((p : Point) → HasOwnNode net p → place p < m.nodes)
    → (labels : List ChipLabel) → names_of labels ≡ chip_labels pads
    → AllZip (IsAt f number place) (points ins outs) labels
    → (flat : List FlatLabel) → AreLabelsOf labels flat → (n : Network) → IsNetwork (covered (shape f)) flat n
    → IsExtracted n m pads net ins outs place
