-- What `measure_slices` and `place_slices` give, and ask.
use Rattle.std.specs.Prelude.{◌≡◌, ◌+◌, ◌*◌, ◌<◌, ℕ, suc, List, ◌++◌, map, length, replicate, slice_index}
use Rattle.std.specs.List.{range_with_len}
use Rattle.fabric.specs.declared.thing.Segment.{Segment}
use Rattle.fabric.specs.Plan.{Plan}
use Rattle.fabric.specs.Room.{limit}
use Rattle.nor_net.specs.Shape.{gate_inputs}
use Rattle.track_assign.specs.Density.{IsDensity}
use Rattle.track_assign.specs.declared.packing.Tracks.{Tracks}
use Rattle.array_form.specs.Homes.{end_of}
use Rattle.array_form.specs.Laying.{band_segment}
use Rattle.array_form.specs.Place.{intervals_in}
use Rattle.slice_form.specs.Joints.{joint_lines}
use Rattle.slice_form.specs.Path.{Path}
use Rattle.slice_form.specs.PathLists.{slices_of}
use Rattle.slice_form.specs.Slices.{cast_column, lift_column, slice_columns}
use Rattle.slice_laying.specs.Added.{slice_cols, slice_segments, slice_lines, slice_marks, joint_marks, with_slices}
use Rattle.slice_laying.specs.Fitting.{HasRoomFor, AreSliceTracks}
use Rattle.slice_place.specs.declared.placing.Added.{Added}
use Rattle.slice_place.specs.declared.placing.SliceSize.{SliceSize}
use Rattle.slice_place.specs.declared.placing.PlacedSlices.{PlacedSlices}

-- the columns of casts, and of lifts
abbrev pub slice_taps : Path → List ℕ
slice_taps p =
    map cast_column (range_with_len 0 (length p.casts)) ++ map (lift_column p) (range_with_len 0 (length p.lifts))

-- what `measure_slices` answers: one column more for power, and in each band the row of ground
pub record IsSliceSize (p : Path) (size : SliceSize) : Type 0 where
  pub rows : ℕ
  pub column : ℕ
  pub density : IsDensity (intervals_in (slice_columns p) p.slice) rows column
  pub columns_is : size.columns ≡ suc (end_of (slice_columns p) p.slice)
  pub rows_is : size.rows ≡ replicate p.width (suc rows)
  pub taps_is : size.taps ≡ slice_taps p

-- the fabric has room for the slices, with as many rows as their segments want
abbrev pub IsSlicesFitted : Plan → Path → Type 0
IsSlicesFitted f p = (rows : ℕ) × (column : ℕ)
    × IsDensity (intervals_in (slice_columns p) p.slice) rows column × HasRoomFor f p rows

-- how many lines and nets join bands
abbrev pub joints : Path → ℕ
joints p = length p.casts + length p.lifts + (length p.chains + length p.programs)

-- The fabric has space for what is added for the slices.
pub record HasSlicesSpace (f : Plan) (p : Path) : Type 0 where
  pub segments : length f.segments + p.width * (length p.slice + 3) < limit
  pub lines : length f.lines + (p.width * (2 * length p.slice + 2 * joints p) + joints p + 3) < limit
  pub marks : length f.marks
      + (p.width * (3 * length p.slice + gate_inputs p.slice + 3 + 3 * joints p) + joints p) < limit

-- what is added for the slices
pub record AreListed (p : Path) (tracks : Tracks) (listed : Added) : Type 0 where
  pub segments : listed.segments.items ≡ slice_segments p (slice_index tracks.row)
  pub lines : listed.lines.items ≡ slice_lines p ++ joint_lines p
  pub marks : listed.marks.items
      ≡ slice_marks p (suc tracks.rows) (slice_index tracks.row)
      ++ joint_marks p (suc tracks.rows) (slice_index tracks.row)

-- the segments of the nets of the slice in a band
abbrev pub told_segments : Path → (ℕ → ℕ) → ℕ → List Segment
told_segments p row b = map (band_segment b (slice_cols p) row) (range_with_len 0 (length p.slice))

-- what is told: of each slice the segments of its nets, and the rows
pub record AreToldBy (p : Path) (tracks : Tracks) (placed : PlacedSlices) : Type 0 where
  pub segments : placed.segments ≡ map (told_segments p (slice_index tracks.row)) (slices_of p)
  pub groups : placed.groups ≡ replicate p.width tracks

-- What `place_slices` leaves, and answers: the fabric with all slices and what joins them, in rows that are told.
pub record AreSlicesPlaced (p : Path) (old new : Plan) (placed : PlacedSlices) : Type 0 where
  pub tracks : Tracks
  pub told : AreToldBy p tracks placed
  pub are_tracks : AreSliceTracks p tracks
  pub long : length tracks.row ≡ length p.slice + 3
  pub density : IsDensity (intervals_in (slice_columns p) p.slice) tracks.rows tracks.column
  pub after : new ≡ with_slices old p (suc tracks.rows) (slice_index tracks.row)
