-- The layout of a net in a band: columns of nets, spans of segments, and rows.
use Rattle.std.specs.Prelude.{◌≡◌, ◌<◌, ◌+◌, ◌^◌, ℕ, suc, List, Bool, map, max, length, slice_index}
use Rattle.std.specs.List.{range_with_len}
use Rattle.nor_net.specs.declared.net.Part.{Part}
use Rattle.track_assign.specs.Density.{IsDensity}
use Rattle.array_form.specs.declared.band.Band.{Band}
use Rattle.array_form.specs.declared.band.Tap.{Tap}
use Rattle.array_form.specs.Homes.{home, end_of, greatest}
use Rattle.fabric.specs.declared.thing.Segment.{Segment}
use Rattle.fabric.specs.Plan.{Plan}
use Rattle.track_assign.specs.declared.packing.Tracks.{Tracks}
use Rattle.array_form.specs.Laying.{AreTracks, band_segments, band_lines, band_marks, with_net}
use Rattle.array_form.specs.Place.{columns_in, cols_in, intervals_in}
use Rattle.band_lists.specs.declared.homes.Homes.{Homes}
use Rattle.band_lists.specs.Listed.{AreRows}
use Rattle.weinberger.specs.declared.layout.Layout.{Layout}
use Rattle.weinberger.specs.declared.added.Added.{Added}

-- behind three phases and the taps
abbrev pub base_of : ℕ → List Tap → ℕ
base_of first taps = max (first + 3) (greatest (map (λ t. t.column + 1) taps))

-- the inputs that nothing reads or taps
abbrev pub AreStubs : Band → List Part → List Bool → Type 0
AreStubs band parts stubs = stubs ≡ map (columns_in band parts).stub (range_with_len 0 (length parts))

-- the columns are those of the closed form
pub record AreHomesOf (band : Band) (parts : List Part) (homes : Homes) : Type 0 where
  pub columns : homes.columns.items ≡ map (home (columns_in band parts)) (range_with_len 0 (length parts))
  pub end : homes.end ≡ end_of (columns_in band parts) parts

-- rows of all segments, in which spans lie apart, as many as the spans need
pub record AreTracksOf (band : Band) (parts : List Part) (tracks : Tracks) : Type 0 where
  pub rows : AreRows tracks (length parts + 3)
  pub apart : AreTracks (columns_in band parts) parts (cols_in (columns_in band parts) parts)
      (slice_index tracks.row) tracks.rows
  pub density : IsDensity (intervals_in (columns_in band parts) parts) tracks.rows tracks.column

pub record IsLayout (band : Band) (parts : List Part) (layout : Layout) : Type 0 where
  pub stubs : AreStubs band parts layout.stubs.items
  pub homes : AreHomesOf band parts layout.homes
  pub narrow : layout.homes.end + 1 < 2 ^ 32
  pub spans : layout.spans.items ≡ intervals_in (columns_in band parts) parts
  pub tracks : AreTracksOf band parts layout.tracks

-- the segments of it
abbrev pub segments_by : Band → List Part → Tracks → List Segment
segments_by band parts tracks =
    band_segments band.index (cols_in (columns_in band parts) parts) (slice_index tracks.row) parts

-- what is added for it
pub record AreListed (band : Band) (parts : List Part) (tracks : Tracks) (listed : Added) : Type 0 where
  pub segments : listed.segments.items ≡ segments_by band parts tracks
  pub lines : listed.lines.items ≡ band_lines band.index (columns_in band parts) parts
  pub marks : listed.marks.items
      ≡ band_marks band.index (suc tracks.rows) (slice_index tracks.row) (columns_in band parts) parts

-- a fabric with what is laid out in it
abbrev pub placed_by : Plan → Band → List Part → Tracks → Plan
placed_by f band parts tracks =
    with_net f band.index (columns_in band parts) parts (cols_in (columns_in band parts) parts)
    (slice_index tracks.row)
