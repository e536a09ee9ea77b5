-- What a fabric draws.
use Rattle.std.specs.Prelude.{ℕ, ◌≡◌, ◌≤◌, ◌+◌, List, [], Some, length}
use Rattle.std.specs.List.{AllZip}
use Rattle.lam_geom.specs.declared.label.FlatLabel.{FlatLabel}
use Rattle.lam_geom.specs.Squares.{Square, IsIn, covered}
use Rattle.switch_net.specs.declared.network.Network.{Network}
use Rattle.lam_geom.specs.declared.layer.Layer.{Layer}
use Rattle.switch_net.specs.Labels.{Names}
use Rattle.switch_net.specs.Drawn.{IsNetwork}
use Rattle.fabric.specs.Counted.{thing_count}
use Rattle.fabric.specs.Plan.{Plan, IsFabric}
use Rattle.fabric.specs.Shape.{shape, ground_trunk, power_trunk, segment_rect, line_rect}
use Rattle.fabric.specs.Switches.{Net, IsNet, AreSwitches}
use Rattle.fabric.specs.Switches.Net.{segment, line, ground, power}
use Rattle.renumbering.specs.Same.{Renumbering, SameUpToNumbering}

-- the square is one of the net's own rectangle
abbrev pub IsOn : Plan → Net → Square → Type 0
IsOn f (segment s) q = IsIn (segment_rect f s) q
IsOn f (line l) q = IsIn (line_rect f l) q
IsOn f ground q = IsIn (ground_trunk f) q
IsOn f power q = IsIn (power_trunk f) q

-- the label is on a square of the net's own rectangle, and names its layer
pub record IsLabelOn (f : Plan) (n : Net) (label : FlatLabel) : Type 0 where
  pub layer : Layer
  pub named : label.layer ≡ Some layer
  pub on : IsOn f n (record { layer = layer; x = label.x; y = label.y })

-- the network that is drawn is that of the switches, and a label on a net is on the net's node
pub record DrawsSwitches (f : Plan) (number : Net → ℕ) (labels : List FlatLabel) (net switches : Network) : Type 0 where
  pub numbers : Renumbering net switches
  pub labelled : AllZip (λ label tag. (n : Net) → IsNet f n → IsLabelOn f n label → numbers.node tag.node ≡ number n)
      labels net.tags

-- **The fabric theorem**: whatever the labels, the squares of a fabric draw the network of its switches, up to
-- numbering
abbrev pub FabricDrawsSwitches : Type 0
FabricDrawsSwitches =
    (f : Plan) → IsFabric f → (labels : List FlatLabel) (net switches : Network) (number : Net → ℕ)
    → IsNetwork (covered (shape f)) labels net → AreSwitches f number switches
    → DrawsSwitches f number labels net switches

-- without labels the two networks are the same up to numbering
abbrev pub FabricIsSwitches : Type 0
FabricIsSwitches =
    (f : Plan) → IsFabric f → (net switches : Network) (number : Net → ℕ)
    → IsNetwork (covered (shape f)) [] net → AreSwitches f number switches → SameUpToNumbering net switches

-- a label on a net names a conductor
abbrev pub LabelsName : Type 0
LabelsName =
    (f : Plan) → IsFabric f → (n : Net) → IsNet f n → (label : FlatLabel) → IsLabelOn f n label
    → (s : Square) × Names (covered (shape f)) label s

-- there are no more nodes and channels than segments, lines and marks, and two
abbrev pub FabricsAreSmall : Type 0
FabricsAreSmall =
    (f : Plan) → IsFabric f → (labels : List FlatLabel) (net switches : Network) (number : Net → ℕ)
    → IsNetwork (covered (shape f)) labels net → AreSwitches f number switches
    → net.nodes + length net.channels ≤ thing_count f + 2
