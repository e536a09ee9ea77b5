-- The fabric of a data path: its control in band 0, its slices in the bands above, and what joins them.
use Rattle.std.specs.Prelude.{◌≡◌, ℕ, suc, List, ◌∷◌, replicate, slice_index}
use Rattle.fabric.specs.Plan.{Plan, IsFabric}
use Rattle.fabric.specs.Plan as fabric
use Rattle.nor_net.specs.Shape.{IsNet}
use Rattle.track_assign.specs.declared.packing.Tracks.{Tracks}
use Rattle.track_assign.specs.Density.{IsDensity}
use Rattle.array_form.specs.Laying.{AreTracks, with_net}
use Rattle.array_form.specs.Place.{cols_in, intervals_in}
use Rattle.path_form.specs.declared.path.DataPath.{DataPath}
use Rattle.slice_form.specs.Path.{Path}
use Rattle.slice_form.specs.Slices.{columns_wanted, control_columns, slice_columns}
use Rattle.slice_form.specs.Whole.{path_of}
use Rattle.slice_laying.specs.Added.{with_slices}
use Rattle.slice_laying.specs.Fitting.{AreSliceTracks, HasRoomFor}
use Rattle.slice_laying.specs.Taps.{with_taps}

-- the columns of segment k of the control: of its nets, and then of the phases
abbrev pub control_cols : Path → ℕ → List ℕ
control_cols p = cols_in (control_columns p) p.control

-- an empty fabric with a band for the control and one for each slice, of so many rows above those of ground
abbrev pub empty : Path → ℕ → ℕ → ℕ → Plan
empty p columns control slices =
    fabric.empty columns (suc control ∷ replicate p.width (suc slices))

-- the control in band 0
abbrev pub with_control : Plan → Path → Tracks → Plan
with_control f p control =
    with_net f 0 (control_columns p) p.control (control_cols p) (slice_index control.row)

-- such rows as `pack` gives the segments of the control
abbrev pub AreControlTracks : Path → Tracks → Type 0
AreControlTracks p tracks =
    AreTracks (control_columns p) p.control (control_cols p) (slice_index tracks.row) tracks.rows

abbrev pub control_laid : Path → ℕ → Tracks → Tracks → Plan
control_laid p columns control slices = with_control (empty p columns control.rows slices.rows) p control

abbrev pub slices_laid : Path → ℕ → Tracks → Tracks → Plan
slices_laid p columns control slices =
    with_slices (control_laid p columns control slices) p (suc slices.rows) (slice_index slices.row)

abbrev pub path_laid : Path → ℕ → Tracks → Tracks → Plan
path_laid p columns control slices =
    with_taps (slices_laid p columns control slices) p (slice_index control.row)

-- The fabric is that of the path: just as wide as it wants, each band with as many rows as segments of it lie over one
-- column, and that of ground.
pub record IsSliced (p : DataPath) (f : Plan) : Type 0 where
  pub control : Tracks
  pub slices : Tracks
  pub control_tracks : AreControlTracks (path_of p) control
  pub slice_tracks : AreSliceTracks (path_of p) slices
  pub control_density : IsDensity (intervals_in (control_columns (path_of p)) p.control) control.rows control.column
  pub slice_density : IsDensity (intervals_in (slice_columns (path_of p)) p.slices.net) slices.rows slices.column
  pub is : f ≡ path_laid (path_of p) (columns_wanted (path_of p)) control slices

-- Where the control was placed in an empty fabric, there is room for the slices.
abbrev pub ControlsLeaveRoom : Type 0
ControlsLeaveRoom =
    (p : DataPath) → IsNet p.control → (control slices : Tracks)
    → HasRoomFor (control_laid (path_of p) (columns_wanted (path_of p)) control slices) (path_of p) slices.rows

-- Where control and slices were placed, the taps in the control's band may be added.
abbrev pub TapsFit : Type 0
TapsFit =
    (p : DataPath) → IsNet p.control → IsNet p.slices.net → (control slices : Tracks)
    → AreControlTracks (path_of p) control → AreSliceTracks (path_of p) slices
    → IsFabric (slices_laid (path_of p) (columns_wanted (path_of p)) control slices)
    → IsFabric (path_laid (path_of p) (columns_wanted (path_of p)) control slices)
