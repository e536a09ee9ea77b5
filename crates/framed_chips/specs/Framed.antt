-- Chips with pads: what stands beside the fabric, and what the whole keeps.
use Rattle.std.specs.Prelude.{ℕ, ◌≡◌, ◌+◌, ◌*◌, ◌<◌, ◌≤◌, ◌≢◌, List, ◌∷◌, length, All}
use Rattle.lam_geom.specs.Extent.{IsAtMost}
use Rattle.lam_geom.specs.Rules.{IsClean}
use Rattle.lam_geom.specs.Squares.{covered}
use Rattle.cif_form.specs.Labels.{IsSpace}
use Rattle.fabric.specs.declared.chip.Chip.{Chip}
use Rattle.fabric.specs.declared.chip.ChipLabel.{ChipLabel}
use Rattle.fabric.specs.Counted.{rectangle_count}
use Rattle.fabric.specs.Plan.{IsFabric, bands}
use Rattle.fabric.specs.Shape.{base}
use Rattle.fabric_laws.specs.Sized.{AreSized}
use Rattle.cif_emit.specs.Emittable.{IsEmittable, chip_rects, farthest}
use Rattle.pad_frame.specs.declared.frames.Framed.{Framed}
use Rattle.pad_frame.specs.declared.frames.PadWish.{PadWish}
use Rattle.pad_frame.specs.Frames.{AreFramed}
use Rattle.chip_pads.specs.Ports.{ArePorts, bridge}
use Rattle.padded_chips.specs.Carrying.{IsOnPad}

-- the label stands on one of the pads
abbrev pub IsOnSomePad : List PadWish → ChipLabel → Type 0
IsOnSomePad wishes label = (j : ℕ) × (j < length wishes) × IsOnPad wishes j label

-- Beside its fabric the chip draws a frame of pads, each joined to its own port of the fabric, and the bridge that joins
-- the first of them to the trunk of ground. There are as many pads as labels, and each label stands on one of them.
pub record IsFramed (chip : Chip) : Type 0 where
  pub wishes : List PadWish
  pub frame : Framed
  pub drawn : AreFramed wishes frame
  pub ports : ArePorts chip.fabric wishes
  pub extra : chip.extra ≡ bridge ∷ frame.shape
  pub as_many : length wishes ≡ length chip.labels
  pub on_pads : All (IsOnSomePad wishes) chip.labels

-- Its extent is 7 lambda a pad and 43 wider than its columns, and it is as high as the fabric or the pads.
abbrev pub FramedAreHeld : Type 0
FramedAreHeld =
    (chip : Chip) → IsFabric chip.fabric → IsFramed chip → (high : ℕ) → base chip.fabric (bands chip.fabric) ≤ high
    → 60 * length chip.labels ≤ high
    → IsAtMost (covered (chip_rects chip)) (20 * (chip.fabric).columns + 7 * length chip.labels + 43) high

-- no lambda rule is broken
abbrev pub FramedAreClean : Type 0
FramedAreClean = (chip : Chip) → IsFabric chip.fabric → IsFramed chip → IsClean (covered (chip_rects chip))

-- the channels are the fabric's
abbrev pub FramedAreSized : Type 0
FramedAreSized = (chip : Chip) → IsFabric chip.fabric → IsFramed chip → AreSized (covered (chip_rects chip))

-- five rectangles a pad
abbrev pub FramedAreFew : Type 0
FramedAreFew =
    (chip : Chip) → IsFramed chip
    → length (chip_rects chip) ≤ rectangle_count chip.fabric + (5 * length chip.labels + 1)

-- it can be written, if its fabric and its pads aren't too large and the names of its labels are plain
abbrev pub FramedAreEmittable : Type 0
FramedAreEmittable =
    (chip : Chip) → IsFabric chip.fabric → IsFramed chip → 20 * (chip.fabric).columns ≤ farthest
    → base chip.fabric (bands chip.fabric) ≤ farthest → 60 * length chip.labels ≤ farthest
    → All (λ (l : ChipLabel). (0 < length l.name) × All (λ b. (b ≢ 59) × ¬ IsSpace b) l.name) chip.labels
    → IsEmittable (chip_rects chip) chip.labels
