-- Labels on pads, of nets to which the pads are joined.
use Rattle.std.specs.Prelude.{◌≡◌, ◌<◌, ℕ, List, length}
use Rattle.lam_geom.specs.declared.layer.Layer.TheVariants.{NM}
use Rattle.fabric.specs.declared.chip.ChipLabel.{ChipLabel}
use Rattle.fabric.specs.Plan.{Plan, IsFabric}
use Rattle.fabric.specs.Shape.{shape}
use Rattle.fabric.specs.Switches.{Net, IsNet}
use Rattle.pad_frame.specs.declared.frames.PadWish.{PadWish}
use Rattle.pad_frame.specs.declared.frames.Framed.{Framed}
use Rattle.pad_frame.specs.Frames.{spot_x, spot_y, AreFramed}
use Rattle.chip_pads.specs.Ports.{ArePorts, IsPadOf, pieces_of}
use Rattle.chip_laws.specs.Labels.{IsInCorner}
use Rattle.padded_chips.specs.Padding.{IsCarried}

-- the label stands on the pad of this number
pub record IsOnPad (wishes : List PadWish) (j : ℕ) (label : ChipLabel) : Type 0 where
  pub layer : label.layer ≡ NM
  pub x : label.x ≡ spot_x (length wishes)
  pub y : label.y ≡ spot_y j

-- from the corner of a net a label is carried to a pad of the net
abbrev pub LabelsAreCarried : Type 0
LabelsAreCarried =
    (f : Plan) → IsFabric f → (wishes : List PadWish) (framed : Framed) → AreFramed wishes framed
    → ArePorts f wishes → (j : ℕ) → j < length wishes → (n : Net) → IsNet f n → IsPadOf f wishes j n
    → (new old : ChipLabel) → IsInCorner f n old → new.name ≡ old.name → IsOnPad wishes j new
    → IsCarried (shape f) (pieces_of wishes) new old
