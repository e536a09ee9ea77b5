-- A fabric as the parts of a data path are added to it.
use Rattle.std.specs.Prelude.{◌≡◌, ◌+◌, ℕ, [], ◌∷◌, length, replicate}
use Rattle.fabric.specs.Plan.{Plan}
use Rattle.track_assign.specs.Density.{IsDensity}
use Rattle.track_assign.specs.declared.packing.Tracks.{Tracks}
use Rattle.array_form.specs.declared.band.Placed.{Placed}
use Rattle.array_form.specs.Place.{intervals_in}
use Rattle.band_lists.specs.Listed.{AreRows}
use Rattle.slice_form.specs.Path.{Path}
use Rattle.slice_form.specs.Slices.{columns_wanted, control_columns, slice_columns}
use Rattle.slice_laying.specs.Fitting.{AreSliceTracks}
use Rattle.slice_place.specs.declared.placing.PlacedSlices.{PlacedSlices}
use Rattle.path_form.specs.declared.path.DataPath.{DataPath}
use Rattle.slice_chip.specs.Sliced.{AreControlTracks, IsSliced, empty, slices_laid, with_control}

-- how many rows the segments of a slice want
pub record IsHigh (p : Path) (rows : ℕ) : Type 0 where
  pub column : ℕ
  pub density : IsDensity (intervals_in (slice_columns p) p.slice) rows column

-- nothing stands in it, and it has the columns and rows that the path wants
pub record IsEmpty (p : Path) (f : Plan) : Type 0 where
  pub control : ℕ
  pub column : ℕ
  pub density : IsDensity (intervals_in (control_columns p) p.control) control column
  pub slices : ℕ
  pub high : IsHigh p slices
  pub is : f ≡ empty p (columns_wanted p) control slices

-- the control stands in band 0, in these rows
pub record HasControl (p : Path) (f : Plan) (control : Tracks) : Type 0 where
  pub tracks : AreControlTracks p control
  pub rows : AreRows control (length p.control + 3)
  pub density : IsDensity (intervals_in (control_columns p) p.control) control.rows control.column
  pub slices : ℕ
  pub high : IsHigh p slices
  pub is : f ≡ with_control (empty p (columns_wanted p) control.rows slices) p control

-- and that is told
pub record IsControlPlaced (p : Path) (f : Plan) (placed : Placed) : Type 0 where
  pub control : Tracks
  pub told : placed.groups ≡ control ∷ []
  pub laid : HasControl p f control

-- the slices stand above it
pub record HasSlices (p : Path) (f : Plan) (control : Tracks) : Type 0 where
  pub slices : Tracks
  pub tracks : AreSliceTracks p slices
  pub density : IsDensity (intervals_in (slice_columns p) p.slice) slices.rows slices.column
  pub is : f ≡ slices_laid p (columns_wanted p) control slices

-- control and slices stand in these rows, with all that joins them
pub record IsTapped (p : DataPath) (f : Plan) (control slices : Tracks) : Type 0 where
  pub sliced : IsSliced p f
  pub control_is : sliced.control ≡ control
  pub slices_is : sliced.slices ≡ slices

pub record AreSlicesIn (p : Path) (f : Plan) (control : Tracks) (placed : PlacedSlices) : Type 0 where
  pub laid : HasSlices p f control
  pub told : placed.groups ≡ replicate p.width laid.slices
  pub rows : AreRows laid.slices (length p.slice + 3)
