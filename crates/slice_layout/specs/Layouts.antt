-- The layout of the slices of a path.
use Rattle.std.specs.Prelude.{◌≡◌, ◌+◌, ◌<◌, ◌^◌, List, Bool, map, length, slice_index}
use Rattle.std.specs.List.{range_with_len}
use Rattle.track_assign.specs.Density.{IsDensity}
use Rattle.track_assign.specs.declared.packing.Tracks.{Tracks}
use Rattle.array_form.specs.Homes.{home, end_of}
use Rattle.array_form.specs.Laying.{AreTracks}
use Rattle.array_form.specs.Place.{cols_in, intervals_in}
use Rattle.slice_form.specs.Path.{Path}
use Rattle.slice_form.specs.Slices.{slice_columns, slice_stub}
use Rattle.band_lists.specs.declared.homes.Homes.{Homes}
use Rattle.band_lists.specs.Listed.{AreRows}
use Rattle.slice_layout.specs.declared.layout.Layout.{Layout}

-- nets whose column holds nothing but their line
abbrev pub AreSliceStubs : Path → List Bool → Type 0
AreSliceStubs p stubs = stubs ≡ map (slice_stub p) (range_with_len 0 (length p.slice))

-- the columns are those of the closed form, and there are few
pub record AreSliceHomes (p : Path) (homes : Homes) : Type 0 where
  pub columns : homes.columns.items ≡ map (home (slice_columns p)) (range_with_len 0 (length p.slice))
  pub end : homes.end ≡ end_of (slice_columns p) p.slice
  pub narrow : homes.end + 1 < 2 ^ 32

-- rows of all segments, in which spans lie apart, as many as the spans need
pub record IsPacked (p : Path) (tracks : Tracks) : Type 0 where
  pub rows : AreRows tracks (length p.slice + 3)
  pub apart : AreTracks (slice_columns p) p.slice (cols_in (slice_columns p) p.slice) (slice_index tracks.row)
      tracks.rows
  pub density : IsDensity (intervals_in (slice_columns p) p.slice) tracks.rows tracks.column

pub record IsSliceLayout (p : Path) (layout : Layout) : Type 0 where
  pub stubs : AreSliceStubs p layout.stubs.items
  pub homes : AreSliceHomes p layout.homes
  pub spans : layout.spans.items ≡ intervals_in (slice_columns p) p.slice
  pub tracks : IsPacked p layout.tracks
