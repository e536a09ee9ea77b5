-- The labels of a chip, as a file has them.
use Rattle.std.specs.Prelude.{◌≡◌, List, Some}
use Rattle.std.specs.List.{AllZip}
use Rattle.lam_geom.specs.declared.label.FlatLabel.{FlatLabel}
use Rattle.fabric.specs.declared.chip.ChipLabel.{ChipLabel}

-- the label of a file is the chip's label, at whatever offset
pub record IsLabelOf (c : ChipLabel) (f : FlatLabel) : Type 0 where
  pub name : f.name ≡ c.name
  pub x : f.x ≡ c.x
  pub y : f.y ≡ c.y
  pub layer : f.layer ≡ Some c.layer

abbrev pub AreLabelsOf : List ChipLabel → List FlatLabel → Type 0
AreLabelsOf chip flat = AllZip IsLabelOf chip flat
