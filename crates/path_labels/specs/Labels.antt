-- The labels of the chip of a data path, each in the corner of a net of the fabric.
use Rattle.std.specs.Prelude.{◌≡◌, ◌≢◌, ◌<◌, ◌+◌, ◌*◌, ℕ, List, ◌++◌, get_or, length, map, flat_map}
use Rattle.std.specs.List.{AllZip}
use Rattle.nor_net.specs.Elements.{Spot}
use Rattle.drawing.specs.Draws.{Point, OfNet, Ground, Power, OfPhase}
use Rattle.array_form.specs.Homes.{phase_number}
use Rattle.fabric.specs.declared.chip.ChipLabel.{ChipLabel}
use Rattle.fabric.specs.Plan.{Plan}
use Rattle.fabric.specs.Switches.{Net}
use Rattle.fabric.specs.Switches.Net.{segment, ground, power}
use Rattle.path_form.specs.declared.path.DataPath.{DataPath}
use Rattle.path_form.specs.Shape.{EntriesFit, PadsFit}
use Rattle.mp_base.specs.declared.pad.Pad.{Pad}
use Rattle.nor_net.specs.declared.net.NetId.{NetId}
use Rattle.slice_chip.specs.Order.{nowhere, number_at}
use Rattle.chip_laws.specs.Labels.{IsInCorner}
use Rattle.chip_laws.specs.Laws.{names_of, points}
use Rattle.chip_laws.specs.Rows.{rows_at}
use Rattle.chip_pads.specs.Heights.{port_low}
use Rattle.path_labels.specs.declared.corners.Corners.{Corners}

-- how many there are
abbrev pub segments_of : DataPath → ℕ
segments_of p = length p.control + 3 + p.width * (length p.slices.net + 3)

-- The net of the fabric for a point of the drawing.
abbrev pub net_at : DataPath → Plan → Point → Net
net_at p f (OfNet s) = segment (get_or f.segments (number_at p s.band s.net) nowhere)
net_at p f Ground = ground
net_at p f Power = power
net_at p f (OfPhase ph) = segment (get_or f.segments (length p.control + phase_number ph) nowhere)

-- the label stands in the corner of the net for this point
abbrev pub IsAtPoint : DataPath → Plan → Point → ChipLabel → Type 0
IsAtPoint p f at label = IsInCorner f (net_at p f at) label

-- the points of the nets of rows
abbrev pub points_in : List (List Spot) → List Point
points_in rows = flat_map (λ row. map OfNet row) rows

-- the points of all labels of a path's chip
abbrev pub label_points : DataPath → List Point
label_points p = points (rows_at (p.pads).inputs p.inputs) (rows_at (p.pads).outputs p.outputs)

-- how high the port of the net for this point lies, in lambda
abbrev pub height_at : DataPath → Plan → Point → ℕ
height_at p f at = port_low f (net_at p f at)

-- New are the old labels, and behind them labels of these names at these points, with the heights of their ports.
pub record Adds (p : DataPath) (f : Plan) (at : List Point) (names : List (List ℕ)) (old new : Corners) : Type 0 where
  pub named : names_of new.labels ≡ names_of old.labels ++ names
  pub there : (before : List Point) → AllZip (IsAtPoint p f) before old.labels
      → AllZip (IsAtPoint p f) (before ++ at) new.labels
  pub high : new.heights ≡ old.heights ++ map (height_at p f) at

-- the nets of these pads are those of the path's control and slices
abbrev pub AreEntriesOf : DataPath → List Pad → List NetId → Type 0
AreEntriesOf p pads ids = PadsFit p.width pads × EntriesFit p.control p.slices pads ids

-- the net of one pad
pub record IsEntryOf (p : DataPath) (pad : Pad) (id : NetId) : Type 0 where
  pub signal : pad.width ≡ 0 → id.0 < length p.control
  pub wide : pad.width ≢ 0 → pad.width ≡ p.width
  pub word : pad.width ≢ 0 → id.0 < length p.slices.net
