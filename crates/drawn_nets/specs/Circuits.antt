-- A circuit that draws nets, with the labels of its pads on their nodes, and what it shows.
use Rattle.std.specs.Prelude.{◌≡◌, ℕ, List, [], ◌∷◌, All, Contains, codes, map}
use Rattle.std.specs.List.{AllZip}
use Rattle.mp_base.specs.declared.value.Trit.{Trit}
use Rattle.mp_base.specs.declared.pad.Pad.{Pad}
use Rattle.mp_base.specs.declared.pad.Pads.{Pads}
use Rattle.switch_net.specs.declared.network.Network.{Network}
use Rattle.switch_net.specs.Pads.{bit_labels}
use Rattle.mp_base.specs.PadBits.{pad_bits, Fit}
use Rattle.switch_net.specs.Clock.{IsLabelled, IsCircuitTrace}
use Rattle.nor_net.specs.declared.net.Phase.TheVariants.{A, B, C}
use Rattle.nor_net.specs.Elements.{Spot, Given, Nets}
use Rattle.nor_net.specs.Clock.{IsLooseTrace}
use Rattle.drawing.specs.Draws.{Point, OfNet, Ground, Power, OfPhase, Draws}
use Rattle.drawn_nets.specs.Law.{IsKind, AreFed}

-- the labels of the pad's bits are on the nodes of these nets
abbrev pub IsPadAt : Network → (Point → ℕ) → Pad → List Spot → Type 0
IsPadAt network node pad nets = AllZip (λ label net. IsLabelled network label (node (OfNet net))) (bit_labels pad) nets

-- The network draws the nets, and its labels are on the nodes that they name. Each net that is given its value is a
-- bit of an input pad.
pub record DrawsCircuit (network : Network) (pads : Pads) (net : Nets) (ins outs : List (List Spot))
    (node : Point → ℕ) : Type 0 where
  pub is_fed : AreFed net
  pub draws : Draws network.channels net node
  pub ground : IsLabelled network (codes "gnd") (node Ground)
  pub power : IsLabelled network (codes "vdd") (node Power)
  pub phia : IsLabelled network (codes "phia") (node (OfPhase A))
  pub phib : IsLabelled network (codes "phib") (node (OfPhase B))
  pub phic : IsLabelled network (codes "phic") (node (OfPhase C))
  pub inputs : AllZip (IsPadAt network node) pads.inputs ins
  pub outputs : AllZip (IsPadAt network node) pads.outputs outs
  pub are_inputs : All (λ nets. All (λ k. IsKind net k Given) nets) ins
  pub all_inputs : (k : Spot) → IsKind net k Given → (nets : List Spot) × Contains ins nets × Contains nets k

-- the nets of each input pad's bits have the bits of its value
abbrev pub AreGiven : (Spot → Trit) → List Pad → List ℕ → List (List Spot) → Type 0
AreGiven given (pad ∷ pads) (word ∷ words) (nets ∷ ins) =
    AllZip (λ net bit. given net ≡ bit) nets (pad_bits pad word) × AreGiven given pads words ins
AreGiven given [] [] [] = Unit {0}
AreGiven given _ _ _ = ⊥

-- What a circuit shows from any values, the nets that it draws show too, in a trace of solutions along the same inputs.
abbrev pub CircuitsAreDrawn : Type 0
CircuitsAreDrawn =
    (network : Network) (pads : Pads) (net : Nets) (ins outs : List (List Spot)) (node : Point → ℕ)
    → DrawsCircuit network pads net ins outs node
    → (before after : ℕ → Trit) (inputs : List (List ℕ)) (shown : List (List (List Trit)))
    → All (Fit pads.inputs) inputs
    → IsCircuitTrace network pads before inputs shown after
    → (givens showns : List (Spot → Trit)) × IsLooseTrace net (λ k. before (node (OfNet k))) givens showns
    (λ k. after (node (OfNet k)))
    × AllZip (λ words given. AreGiven given pads.inputs words ins) inputs givens
    × (shown ≡ map (λ v. map (λ nets. map v nets) outs) showns)
