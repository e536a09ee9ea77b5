-- When the slices of a path may be added to a fabric.
use Rattle.std.specs.Prelude.{◌≡◌, ◌⊎◌, ◌<◌, ◌≤◌, ℕ, suc, Contains, slice_index}
use Rattle.fabric.specs.declared.thing.Segment.{Segment}
use Rattle.fabric.specs.declared.thing.Line.{Line}
use Rattle.fabric.specs.declared.thing.Mark.{Mark}
use Rattle.fabric.specs.Plan.{Plan, IsFabric, bands, rows_of}
use Rattle.track_assign.specs.declared.packing.Tracks.{Tracks}
use Rattle.array_form.specs.Homes.{end_of}
use Rattle.array_form.specs.Laying.{AreTracks}
use Rattle.nor_net.specs.Shape.{IsNet}
use Rattle.path_form.specs.declared.path.DataPath.{DataPath}
use Rattle.slice_form.specs.Path.{Path, IsSlice}
use Rattle.slice_form.specs.Slices.{base_of, slice_columns}
use Rattle.slice_form.specs.Whole.{path_of}
use Rattle.slice_laying.specs.Added.{slice_cols, with_slices}

-- The fabric has the columns, and in bands 1 to the width so many rows above that of ground. Nothing stands in these
-- bands; and in band 0 no line stands in the columns of phases, casts and lifts, which come before all others.
pub record HasRoomFor (f : Plan) (p : Path) (rows : ℕ) : Type 0 where
  pub high : p.width < bands f
  pub columns : end_of (slice_columns p) p.slice < f.columns
  pub rows_are : (b : ℕ) → IsSlice p b → rows_of f b ≡ suc rows
  pub no_segments : (s : Segment) → Contains f.segments s → ¬ IsSlice p s.band
  pub no_marks : (m : Mark) → Contains f.marks m → ¬ IsSlice p m.band
  pub no_lines : (l : Line) → Contains f.lines l → (l.last_band ≡ 0) ⊎ (p.width < l.first_band)
  pub free : (l : Line) → Contains f.lines l → l.first_band ≡ 0 → base_of p ≤ l.column

-- such rows as `pack` gives the segments of a slice
abbrev pub AreSliceTracks : Path → Tracks → Type 0
AreSliceTracks p tracks =
    AreTracks (slice_columns p) p.slice (slice_cols p) (slice_index tracks.row) tracks.rows

-- The slices of a path may be added to a fabric that has room for them.
abbrev pub SlicesFit : Type 0
SlicesFit =
    (p : DataPath) → IsNet p.control → IsNet p.slices.net → (f : Plan) → IsFabric f → (tracks : Tracks)
    → HasRoomFor f (path_of p) tracks.rows → AreSliceTracks (path_of p) tracks
    → IsFabric (with_slices f (path_of p) (suc tracks.rows) (slice_index tracks.row))
