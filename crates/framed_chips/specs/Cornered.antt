-- Labels in the corners of nets that have ports, and what becomes of them on pads.
use Rattle.std.specs.Prelude.{ℕ, ◌≡◌, ◌≢◌, ◌≤◌, ◌^◌, List, length, map, All, AllPairs, Contains}
use Rattle.std.specs.List.{AllZip}
use Rattle.fabric.specs.declared.chip.ChipLabel.{ChipLabel}
use Rattle.fabric.specs.Plan.{Plan, IsFabric}
use Rattle.fabric.specs.Shape.{shape}
use Rattle.fabric.specs.Switches.{Net}
use Rattle.fabric.specs.Switches.Net.{ground}
use Rattle.pad_order.specs.Ordered.{AreParted}
use Rattle.chip_pads.specs.Heights.{HasPort, port_low}
use Rattle.chip_pads.specs.Ports.{ArePorts, pieces_of}
use Rattle.chip_laws.specs.Labels.{IsInCorner}
use Rattle.padded_labels.specs.declared.labels.Padding.{Padding}
use Rattle.padded_labels.specs.Padded.{IsPadded, ports_at}
use Rattle.padded_chips.specs.Padding.{IsCarried}

-- each label stands in the corner of a net with a port at this height; no net has two labels, and ground has one
pub record AreCornered (f : Plan) (labels : List ChipLabel) (heights : List ℕ) : Type 0 where
  pub nets : List Net
  pub corners : AllZip (IsInCorner f) nets labels
  pub ported : All (HasPort f) nets
  pub high : heights ≡ map (port_low f) nets
  pub differ : AllPairs ◌≢◌ nets
  pub grounded : Contains nets ground

-- their ports are far enough apart for a frame
abbrev pub CornersAreParted : Type 0
CornersAreParted =
    (f : Plan) → IsFabric f → (labels : List ChipLabel) (heights : List ℕ) → AreCornered f labels heights
    → length labels ≤ 2 ^ 20 → All (λ h. h ≤ 2 ^ 30) heights → AreParted (ports_at labels heights)

-- the frame stands at ports of the fabric, and each label is carried to a pad of its net
abbrev pub CornersAreCarried : Type 0
CornersAreCarried =
    (f : Plan) → IsFabric f → (labels : List ChipLabel) (heights : List ℕ) → AreCornered f labels heights
    → (padding : Padding) (padded : IsPadded labels heights padding)
    → ArePorts f padded.wishes × AllZip (IsCarried (shape f) (pieces_of padded.wishes)) padding.labels labels
