-- A label on each net of a fabric: at the lower left corner of its own rectangle.
use Rattle.std.specs.Prelude.{◌≡◌, ◌+◌, ◌*◌, ℕ, pos}
use Rattle.lam_geom.specs.declared.label.FlatLabel.{FlatLabel}
use Rattle.lam_geom.specs.declared.layer.Layer.{Layer}
use Rattle.lam_geom.specs.declared.layer.Layer.TheVariants.{NM, ND}
use Rattle.lam_geom.specs.Extent.{lambda}
use Rattle.lam_geom.specs.Squares.{Square}
use Rattle.fabric.specs.declared.chip.ChipLabel.{ChipLabel}
use Rattle.fabric.specs.Labelled.{IsLabelOf}
use Rattle.fabric.specs.Plan.{Plan, IsFabric}
use Rattle.fabric.specs.Shape.{base, last_column, offset}
use Rattle.fabric.specs.Switches.{Net, IsNet}
use Rattle.fabric.specs.Switches.Net.{segment, line, ground, power}
use Rattle.fabric_laws.specs.Theorem.{IsLabelOn}

-- the square of the layer whose lower left corner is so many lambda from the left and from the bottom
abbrev pub square_at : Layer → ℕ → ℕ → Square
square_at layer x y = record { layer = layer; x = pos (lambda * x); y = pos (lambda * y) }

-- the square in the lower left corner of a net's own rectangle
abbrev pub corner_of : Plan → Net → Square
corner_of f (segment s) = square_at NM (20 * s.first) (base f s.band + 12 * s.row + 6)
corner_of f (line l) = square_at ND (20 * l.column + offset l.side) (base f l.first_band)
corner_of f ground = square_at NM 7 0
corner_of f power = square_at NM (20 * last_column f + 7) 0

-- the label is there
pub record IsInCorner (f : Plan) (n : Net) (label : ChipLabel) : Type 0 where
  pub layer : label.layer ≡ (corner_of f n).layer
  pub x : label.x ≡ (corner_of f n).x
  pub y : label.y ≡ (corner_of f n).y

-- such a label stands on its net, at whatever offset
abbrev pub LabelsStand : Type 0
LabelsStand =
    (f : Plan) → IsFabric f → (n : Net) → IsNet f n → (label : ChipLabel) → IsInCorner f n label
    → (flat : FlatLabel) → IsLabelOf label flat → IsLabelOn f n flat
