-- Labels that are moved to pads.
use Rattle.std.specs.Prelude.{ℕ, ◌≡◌, ◌<◌, pos, List, [], ◌∷◌, length, slice_index, slice_get, Some, All, Contains}
use Rattle.std.specs.List.{AllZip}
use Rattle.lam_geom.specs.declared.layer.Layer.TheVariants.{NM}
use Rattle.fabric.specs.declared.chip.ChipLabel.{ChipLabel}
use Rattle.fabric.specs.Even.{IsEven}
use Rattle.pad_frame.specs.declared.frames.PadWish.{PadWish}
use Rattle.pad_frame.specs.declared.frames.PadSpot.{PadSpot}
use Rattle.pad_frame.specs.declared.frames.Framed.{Framed}
use Rattle.pad_frame.specs.Frames.{row_at, spot_x, spot_y, AreWishes, AreFramed}
use Rattle.pad_order.specs.declared.ports.Port.{Port}
use Rattle.chip_pads.specs.Ports.{bridge}
use Rattle.padded_labels.specs.declared.labels.Padding.{Padding}

-- the ports of labels at these heights
abbrev pub ports_at : List ChipLabel → List ℕ → List Port
ports_at [] heights = []
ports_at (l ∷ ls) [] = []
ports_at (l ∷ ls) (h ∷ hs) = record { name = l.name; height = h } ∷ ports_at ls hs

pub record IsEvenSpot (spot : PadSpot) : Type 0 where
  pub x : IsEven spot.x
  pub y : IsEven spot.y

-- the label stands at the spot
pub record IsAtSpot (spot : PadSpot) (label : ChipLabel) : Type 0 where
  pub name : label.name ≡ spot.name
  pub layer : label.layer ≡ NM
  pub x : label.x ≡ spot.x
  pub y : label.y ≡ spot.y

-- the new label, of the same name, stands on a pad whose port is at this height
pub record IsMovedTo (wishes : List PadWish) (height : ℕ) (new old : ChipLabel) : Type 0 where
  pub pad : ℕ
  pub there : pad < length wishes
  pub row : row_at wishes pad ≡ pos height
  pub name : new.name ≡ old.name
  pub layer : new.layer ≡ NM
  pub x : new.x ≡ spot_x (length wishes)
  pub y : new.y ≡ spot_y pad

-- What is drawn is a frame and the bridge; each label is moved to the pad at the height of its own port, and each pad
-- is at one of these heights.
pub record IsPadded (labels : List ChipLabel) (heights : List ℕ) (padding : Padding) : Type 0 where
  pub wishes : List PadWish
  pub rising : AreWishes wishes
  pub frame : Framed
  pub drawn : AreFramed wishes frame
  pub as_many : length wishes ≡ length labels
  pub extra : padding.extra ≡ bridge ∷ frame.shape
  pub long : length padding.labels ≡ length labels
  pub moved : (i : ℕ) (new old : ChipLabel) → slice_get padding.labels i ≡ Some new → slice_get labels i ≡ Some old
      → IsMovedTo wishes (slice_index heights i) new old
  pub asked : All (λ (w : PadWish). (h : ℕ) × Contains heights h × (w.row ≡ pos h)) wishes
