-- A fabric with labels on its nets breaks no rule of masks.
use Rattle.std.specs.Prelude.{◌≢◌, ◌≤◌, ◌+◌, ℕ, List, AllPairs, All}
use Rattle.lam_geom.specs.declared.label.FlatLabel.{FlatLabel}
use Rattle.lam_geom.specs.Squares.{covered}
use Rattle.switch_net.specs.declared.limits.TheConstants.{MOST_NODES_AND_CHANNELS}
use Rattle.switch_net.specs.declared.network.Network.{Network}
use Rattle.switch_net.specs.Breaks.{BreaksAt, AreTooMany}
use Rattle.fabric.specs.declared.chip.ChipLabel.{ChipLabel}
use Rattle.fabric.specs.Counted.{thing_count}
use Rattle.fabric.specs.Labelled.{IsLabelOf, AreLabelsOf}
use Rattle.fabric.specs.Plan.{Plan, IsFabric}
use Rattle.fabric.specs.Shape.{shape}
use Rattle.fabric.specs.Switches.{Net, IsNet, AreSwitches}
use Rattle.fabric_laws.specs.Theorem.{IsLabelOn}
use Rattle.chip_laws.specs.Laws.{names_of}

-- the label stands on a net of the fabric, at whatever offset
pub record IsOnNet (f : Plan) (label : ChipLabel) : Type 0 where
  pub net : Net
  pub is : IsNet f net
  pub on : (flat : FlatLabel) → IsLabelOf label flat → IsLabelOn f net flat

-- labels of different names, each on a net, name conductors, and none two
abbrev pub LabelsFit : Type 0
LabelsFit =
    (f : Plan) → IsFabric f → (labels : List ChipLabel) → AllPairs ◌≢◌ (names_of labels) → All (IsOnNet f) labels
    → (flat : List FlatLabel) → AreLabelsOf labels flat → (i : ℕ) → ¬ BreaksAt (covered (shape f)) flat i

-- a fabric of few segments, lines and marks has few nodes and channels
abbrev pub FabricsAreFew : Type 0
FabricsAreFew =
    (f : Plan) → IsFabric f → (switches : Network) (number : Net → ℕ) → AreSwitches f number switches
    → thing_count f + 2 ≤ MOST_NODES_AND_CHANNELS → ¬ AreTooMany (covered (shape f))
