-- What is drawn of a data path in slices follows the transfers that the path shows.
use Rattle.std.specs.Prelude.{◌≡◌, ℕ, List}
use Rattle.lam_geom.specs.declared.label.FlatLabel.{FlatLabel}
use Rattle.lam_geom.specs.declared.rect.Rect.{Rect}
use Rattle.lam_geom.specs.Squares.{covered}
use Rattle.switch_net.specs.declared.network.Network.{Network}
use Rattle.switch_net.specs.Breaks.{BreaksAt, AreTooMany}
use Rattle.switch_net.specs.Drawn.{IsNetwork}
use Rattle.switch_net.specs.Pads.{chip_labels}
use Rattle.nor_net.specs.Shape.{IsNet}
use Rattle.drawing.specs.Draws.{Point}
use Rattle.fabric.specs.declared.chip.ChipLabel.{ChipLabel}
use Rattle.fabric.specs.Labelled.{AreLabelsOf}
use Rattle.rtl_form.specs.declared.rtl.Rtl.{Rtl}
use Rattle.path_form.specs.declared.path.DataPath.{DataPath}
use Rattle.path_form.specs.Showing.{ShowsTransfers, path_nets}
use Rattle.chip_laws.specs.Laws.{IsExtracted, names_of}
use Rattle.chip_laws.specs.Planned.{IsPlanned}
use Rattle.chip_laws.specs.Rows.{rows_at}

-- At whatever offsets the labels stand, they fit and there is room; and each network is that of the switches, which
-- draw the path, with the labels on the bits of its pads.
abbrev pub IsPathLaidOut : Rtl → DataPath → Network → (Point → ℕ) → List Rect → List ChipLabel → Type 0
IsPathLaidOut rtl p m place rects labels =
    (flat : List FlatLabel) → AreLabelsOf labels flat
    → ((i : ℕ) → ¬ BreaksAt (covered rects) flat i) × (¬ AreTooMany (covered rects))
    × ((n : Network) → IsNetwork (covered rects) flat n
    → IsExtracted n m rtl.pads (path_nets p) (rows_at (rtl.pads).inputs p.inputs)
    (rows_at (rtl.pads).outputs p.outputs) place)

-- from the path to the plan
abbrev pub PathsArePlanned : Type 0
PathsArePlanned =
    (rtl : Rtl) (p : DataPath) (m : Network) (place : Point → ℕ) (rects : List Rect) (labels : List ChipLabel)
    → p.pads ≡ rtl.pads → ShowsTransfers rtl p → IsNet p.control → IsNet p.slices.net
    → names_of labels ≡ chip_labels rtl.pads → IsPathLaidOut rtl p m place rects labels
    → IsPlanned rtl rects labels
