-- The network that a CIF file draws, and the first rule that the file breaks.
use Rattle.std.specs.Prelude.{◌⊎◌, ℕ, List, [], Option, Some, None}
use Rattle.mp_base.specs.declared.refusal.Broken.{Broken}
use Rattle.mp_base.specs.declared.refusal.Refusal.TheVariants as refusals
use Rattle.lam_geom.specs.declared.rect.Rect.{Rect}
use Rattle.lam_geom.specs.declared.label.FlatLabel.{FlatLabel}
use Rattle.lam_geom.specs.Squares.{covered}
use Rattle.cif_form.specs.declared.command.Item.{Item}
use Rattle.cif_form.specs.Text.{Reads}
use Rattle.cif_form.specs.Scans as scans
use Rattle.cif_form.specs.Scans.{FileScans}
use Rattle.cif_form.specs.Expansion.{Expands}
use Rattle.cif_form.specs.Walk as walks
use Rattle.cif_form.specs.Walk.{FileWalks}
use Rattle.cif_reader.specs.Refusing.{Refuses as RefusesText}
use Rattle.cif_flat.specs.Refusing.{RefusesWalk}
use Rattle.switch_net.specs.declared.network.Network.{Network}
use Rattle.switch_net.specs.Breaks.{IsFirstOfMask}
use Rattle.extractor.specs.Extracted.{IsExtracted}

-- the bytes read as these commands, and break no rule of texts
pub record IsCif (bytes : List ℕ) (commands : List Item) : Type 0 where
  pub read : Reads 0 bytes commands
  pub well_formed : FileScans bytes commands scans.Whole

-- the commands of the bytes draw these shapes, their walk tells these labels, and no rule of texts or of drawing is
-- broken
pub record IsDrawing (bytes : List ℕ) (shapes : List Rect) (labels : List FlatLabel) : Type 0 where
  pub commands : List Item
  pub cif : IsCif bytes commands
  pub drawn : Expands [] None commands shapes
  pub drawable : FileWalks commands shapes labels walks.Whole

-- the shapes with labels that the bytes draw are a mask of this network, and no rule of texts, of drawing or of masks
-- is broken
pub record IsNetOf (bytes : List ℕ) (network : Network) : Type 0 where
  pub shapes : List Rect
  pub labels : List FlatLabel
  pub drawing : IsDrawing bytes shapes labels
  pub mask : IsExtracted shapes labels network

-- the first rule of drawing that the commands of the bytes break
abbrev pub BreaksDrawing : List ℕ → Broken → Type 0
BreaksDrawing bytes b = (commands : List Item) × IsCif bytes commands × RefusesWalk commands (refusals.Broken b)

-- the first rule of masks that what the bytes draw breaks
abbrev pub BreaksMask : List ℕ → Broken → Type 0
BreaksMask bytes b = (shapes : List Rect) × (labels : List FlatLabel) × IsDrawing bytes shapes labels
    × IsFirstOfMask (covered shapes) labels b

-- no rule of texts or of drawing is broken, or this is the first that is: of the text, or else of the drawing
abbrev pub OfDrawing : List ℕ → Option Broken → Type 0
OfDrawing bytes None = (shapes : List Rect) × (labels : List FlatLabel) × IsDrawing bytes shapes labels
OfDrawing bytes (Some b) = RefusesText bytes (refusals.Broken b) ⊎ BreaksDrawing bytes b

-- No rule is broken; or this is the first that is: of the text, or else of the drawing, or else of the mask.
abbrev pub OfMask : List ℕ → Option Broken → Type 0
OfMask bytes None = (network : Network) × IsNetOf bytes network
OfMask bytes (Some b) = RefusesText bytes (refusals.Broken b) ⊎ BreaksDrawing bytes b ⊎ BreaksMask bytes b
