-- What is drawn of a path follows the transfers that the path shows.
use Rattle.std.specs.Prelude.{◌≡◌, ◌<◌, ℕ, List, ◌∷◌, ◌++◌, Some, All, Contains, length, map, flat_map, slice_get}
use Rattle.std.specs.List.{AllZip}
use Rattle.mp_base.specs.declared.pad.Pad.{Pad}
use Rattle.mp_base.specs.declared.pad.Pads.{Pads}
use Rattle.switch_net.specs.declared.network.Tag.{Tag}
use Rattle.switch_net.specs.declared.network.Network.{Network}
use Rattle.switch_net.specs.Breaks.{HasPads}
use Rattle.switch_net.specs.Pads.{bit_labels, chip_labels}
use Rattle.nor_net.specs.declared.net.Phase.TheVariants.{A, B, C}
use Rattle.nor_net.specs.Elements.{Spot, Given, Nets}
use Rattle.drawing.specs.Draws.{Point, OfNet, Ground, Power, OfPhase, HasOwnNode, Draws}
use Rattle.renumbering.specs.Same.{Renumbering}
use Rattle.drawn_nets.specs.Law.{IsKind, AreFed}
use Rattle.drawn_nets.specs.Circuits.{DrawsCircuit}
use Rattle.fabric.specs.declared.chip.ChipLabel.{ChipLabel}

-- no two places of the rows have one net
abbrev pub AreRowsApart : List (List Spot) → Type 0
AreRowsApart rows =
    (a b k l : ℕ) (n : Spot) (xs ys : List Spot) → slice_get rows a ≡ Some xs → slice_get rows b ≡ Some ys
    → slice_get xs k ≡ Some n → slice_get ys l ≡ Some n
    → (a ≡ b) × (k ≡ l)

-- a circuit that draws a net has its pads, where the bits of the input pads are different nets
abbrev pub CircuitsHavePads : Type 0
CircuitsHavePads =
    (network : Network) (pads : Pads) (net : Nets) (ins outs : List (List Spot)) (node : Point → ℕ)
    → DrawsCircuit network pads net ins outs node
    → AreRowsApart ins → HasPads network pads

-- where the labels of a chip stand in the drawing, in order
abbrev pub points : List (List Spot) → List (List Spot) → List Point
points ins outs =
    Power ∷ Ground ∷ OfPhase A ∷ OfPhase B ∷ OfPhase C ∷
    (flat_map (λ row. map OfNet row) ins ++ flat_map (λ row. map OfNet row) outs)

-- one net for each bit
abbrev pub AreRowsOf : List Pad → List (List Spot) → Type 0
AreRowsOf pads rows = AllZip (λ pad row. length (bit_labels pad) ≡ length row) pads rows

-- What is asked of an extracted network n, with the network m of the switches that it is up to numbering: m draws the
-- net, and the tags of
-- n have the chip's names and stand, by their numbers in m, at their points.
pub record IsExtracted (n m : Network) (pads : Pads) (net : Nets) (ins outs : List (List Spot))
    (place : Point → ℕ) : Type 0 where
  pub numbers : Renumbering n m
  pub draws : Draws m.channels net place
  pub inside : (p : Point) → HasOwnNode net p → place p < m.nodes
  pub names : map (λ (t : Tag). t.name) n.tags ≡ chip_labels pads
  pub on : AllZip (λ at (t : Tag). numbers.node t.node ≡ place at) (points ins outs) n.tags

-- such a network draws the net as a circuit
abbrev pub NetworksDrawCircuits : Type 0
NetworksDrawCircuits =
    (n m : Network) (pads : Pads) (net : Nets) (ins outs : List (List Spot)) (place : Point → ℕ)
    (e : IsExtracted n m pads net ins outs place)
    → AreFed net → AreRowsOf pads.inputs ins → AreRowsOf pads.outputs outs
    → All (λ nets. All (λ k. IsKind net k Given) nets) ins
    → ((k : Spot) → IsKind net k Given → (nets : List Spot) × Contains ins nets × Contains nets k)
    → DrawsCircuit n pads net ins outs (λ p. (e.numbers).node_back (place p))

abbrev pub names_of : List ChipLabel → List (List ℕ)
names_of labels = map (λ (l : ChipLabel). l.name) labels
