-- What is added for a net, from the columns of nets and the rows of segments in lists.
use Rattle.std.specs.Prelude.{ℕ, ◌≡◌, ◌+◌, ◌<◌, ◌^◌, suc, List, [], ◌∷◌, Option, Bool, false, All, map, flat_map}
use Rattle.std.specs.Prelude.{length, slice_get, slice_index, slice_index_or}
use Rattle.std.specs.List.{range_with_len}
use Rattle.tile_cells.specs.declared.tile.Tile.TheVariants.{Tran}
use Rattle.fabric.specs.declared.thing.Side.TheVariants.{L, R}
use Rattle.fabric.specs.declared.thing.Segment.{Segment}
use Rattle.fabric.specs.declared.thing.Line.{Line}
use Rattle.fabric.specs.declared.thing.Mark.{Mark}
use Rattle.nor_net.specs.declared.net.NetId.{NetId}
use Rattle.nor_net.specs.declared.net.Part.{Part}
use Rattle.track_assign.specs.declared.packing.Interval.{Interval}
use Rattle.track_assign.specs.declared.packing.Tracks.{Tracks}
use Rattle.array_form.specs.Lists.{stretch, upright, mark}
use Rattle.array_form.specs.Band.{inputs_of}
use Rattle.array_form.specs.Laying.{column_lines, column_marks}
use Rattle.band_lists.specs.declared.lists.Column.{Column}

-- no columns
abbrev pub nowhere : Interval
nowhere = record { first = 0; last = 0 }

-- a span in the row that was assigned, above that of ground
abbrev pub segment_of : ℕ → List Interval → List ℕ → ℕ → Segment
segment_of b spans rows k =
    stretch b (suc (slice_index rows k)) (slice_index_or spans k nowhere).first (slice_index_or spans k nowhere).last

abbrev pub segments_of : ℕ → List Interval → List ℕ → List Segment
segments_of b spans rows = map (segment_of b spans rows) (range_with_len 0 (length spans))

abbrev pub line_pair : ℕ → ℕ → List Line
line_pair b c = upright c L b b ∷ upright c R b b ∷ []

abbrev pub lines_at : ℕ → List ℕ → List Bool → List Part → ℕ → List Line
lines_at b columns stubs parts n =
    column_lines b (slice_index columns n) (slice_index_or stubs n false) (slice_get parts n)

abbrev pub lines_of : ℕ → List ℕ → List Bool → List Part → List Line
lines_of b columns stubs parts = flat_map (lines_at b columns stubs parts) (range_with_len 0 (length parts))

-- rows for so many segments
pub record AreRows (tracks : Tracks) (segments : ℕ) : Type 0 where
  pub long : length tracks.row ≡ segments
  pub below : All (λ r. r < tracks.rows) tracks.row
  pub few : tracks.rows + 1 < 2 ^ 32

-- the marks in the column of a net
abbrev pub marks_at : Tracks → ℕ → Column → Bool → ℕ → Option Part → List Mark
marks_at tracks nets column stub n q =
    column_marks column.band (suc tracks.rows) (slice_index tracks.row) nets column.number stub n q

abbrev pub transistors_of : List ℕ → Column → List NetId → List Mark
transistors_of rows column inputs =
    map (λ i. mark Tran column.band (suc (slice_index rows i)) column.number) (inputs_of inputs)

abbrev pub column_of : ℕ → List ℕ → ℕ → Column
column_of b columns n = record { band = b; number = slice_index columns n }

abbrev pub marks_in : Tracks → ℕ → List ℕ → List Bool → List Part → ℕ → List Mark
marks_in tracks b columns stubs parts n =
    marks_at tracks (length parts) (column_of b columns n) (slice_index_or stubs n false) n (slice_get parts n)

abbrev pub marks_of : Tracks → ℕ → List ℕ → List Bool → List Part → List Mark
marks_of tracks b columns stubs parts =
    flat_map (marks_in tracks b columns stubs parts) (range_with_len 0 (length parts))
