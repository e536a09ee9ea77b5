-- From the promises of the compiler's steps to the headline.
use Rattle.std.specs.Prelude.{◌≡◌, ◌+◌, ◌*◌, ◌≤◌, ℕ, List, length, map, max}
use Rattle.mp_base.specs.declared.pad.Pads.{Pads}
use Rattle.lam_geom.specs.declared.label.FlatLabel.{FlatLabel}
use Rattle.lam_geom.specs.declared.rect.Rect.{Rect}
use Rattle.lam_geom.specs.Extent.{IsAtMost}
use Rattle.lam_geom.specs.Squares.{covered}
use Rattle.cif_form.specs.declared.command.Command.{Command}
use Rattle.cif_writer.specs.Texts.{commands_of, file_text}
use Rattle.switch_net.specs.declared.network.Network.{Network}
use Rattle.switch_net.specs.Drawn.{IsNetwork}
use Rattle.switch_net.specs.Pads.{chip_labels}
use Rattle.mp_program.specs.declared.program.Program.{Program}
use Rattle.mp_program.specs.Weight.{weight}
use Rattle.headline.specs.Headline.{IsChipOf}
use Rattle.fabric.specs.declared.chip.ChipLabel.{ChipLabel}
use Rattle.fabric.specs.Labelled.{AreLabelsOf}
use Rattle.fabric_laws.specs.Sized.{AreSized}
use Rattle.lam_geom.specs.Rules.{IsClean}
use Rattle.rtl_form.specs.declared.rtl.Rtl.{Rtl}
use Rattle.rtl_form.specs.Cost.{cost}
use Rattle.process_plan.specs.Same.{IsSame}
use Rattle.chip_laws.specs.Planned.{IsPlanned}
use Rattle.ground_ways.specs.Ratioed.{IsRatioed}
use Rattle.cif_emit.specs.Emitted.{IsEmitted}

-- the most rectangles that a chip of this weight and this word length has
abbrev pub most_rects : ℕ → ℕ → ℕ
most_rects weight width = 100 * (weight + 8) * (width + 1)

-- how many pads a chip has: one for each of its labels
abbrev pub pad_count : Pads → ℕ
pad_count pads = length (chip_labels pads)

-- the most lambda that a chip of this weight with so many pads is wide, whatever its word length is,
abbrev pub most_wide : ℕ → ℕ → ℕ
most_wide weight pads = 20 * (weight + 8) + 7 * pads + 100

-- and high: its bands, or its pads, where these are higher
abbrev pub most_high : ℕ → ℕ → ℕ → ℕ
most_high weight width pads = max (width * (12 * (weight + 8) + 36) + 24 * (weight + 8) + 96) (60 * pads)

-- the plan of a chip, with no more rectangles and labels than transfers of its cost may have
pub record IsSmallPlan (r : Rtl) (rects : List Rect) (labels : List ChipLabel) : Type 0 where
  pub planned : IsPlanned r rects labels
  pub few : length rects ≤ most_rects (cost r) r.width
  pub few_labels : length labels ≤ 64 * cost r + 5

-- What the rectangles draw is at most so wide and so high as transfers of this cost and word length with so many pads
-- may be, its channels have their sizes and the sides of their ends, no lambda rule is broken, and at whatever offsets
-- the labels stand, each network of it has one transistor between a pull-up and ground.
pub record IsBounded (r : Rtl) (rects : List Rect) (labels : List ChipLabel) : Type 0 where
  pub extent : IsAtMost (covered rects) (most_wide (cost r) (pad_count r.pads))
      (most_high (cost r) r.width (pad_count r.pads))
  pub sized : AreSized (covered rects)
  pub clean : IsClean (covered rects)
  pub ratioed : (flat : List FlatLabel) → AreLabelsOf labels flat → (n : Network)
      → IsNetwork (covered rects) flat n → IsRatioed n

-- The text is a chip of the program. It draws no more shapes than one of its weight and word length may have, and is no
-- wider and no higher than one with so many pads. No lambda rule is broken. Each channel is a transistor's, 2 lambda long from end to end and 2 wide, or a pull-up's, 16
-- long and 2 wide, and the network has one transistor between a pull-up and ground. Each label of the pads is there,
-- once, in order, and no other; and the text is what is written of its commands.
pub record IsSmallChipOf (p : Program) (text : List ℕ) : Type 0 where
  pub chip : IsChipOf p text
  pub few : length (chip.draws).shapes ≤ most_rects (weight p) p.width
  pub extent : IsAtMost (covered (chip.draws).shapes) (most_wide (weight p) (pad_count chip.pads))
      (most_high (weight p) p.width (pad_count chip.pads))
  pub sized : AreSized (covered (chip.draws).shapes)
  pub clean : IsClean (covered (chip.draws).shapes)
  pub ratioed : IsRatioed chip.network
  pub named : map (λ (l : FlatLabel). l.name) (chip.draws).labels ≡ chip_labels chip.pads
  pub written : text ≡ file_text (commands_of (chip.draws).commands)

-- Transfers that are the program's, a bounded plan that follows them and commands that draw the plan: their text is a
-- chip of the program.
abbrev pub MakesChips : Program → Type 0
MakesChips p =
    (r : Rtl) (rects : List Rect) (labels : List ChipLabel) (commands : List Command)
    → IsSame p r → IsSmallPlan r rects labels → IsBounded r rects labels → IsEmitted rects labels commands
    → IsSmallChipOf p (file_text commands)
