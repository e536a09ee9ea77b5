-- Spans and rows of a band: rows as they are packed are its tracks, and what is listed in them is its form.
use Rattle.std.proofs.Common.{◌≡◌, ◌⊎◌, ℕ, suc, ◌+◌, ◌<◌, ◌^◌, Some, Bool, false, List, length}
use Rattle.std.proofs.Common.{map, get_or, sym, ◌∙◌, ap, subst, arith}
use Rattle.std.specs.Prelude.{◌≢◌, All, slice_get, slice_index}
use Rattle.std.specs.List.{range_with_len}
use Rattle.std.proofs.lemmas.Option.{slice_get-get_or}
use Rattle.std.proofs.lemmas.List.FromFn.{get_or-map-range_with_len, length-map-range_with_len}
use Rattle.mp_base.proofs.Ranges.{map_same, flat_same}
use Rattle.nor_net.specs.declared.net.Part.{Part}
use Rattle.nor_net.specs.Shape.{IsNet}
use Rattle.track_assign.specs.declared.packing.Interval.{Interval}
use Rattle.track_assign.specs.declared.packing.Tracks.{Tracks}
use Rattle.track_assign.specs.Density.{AreApart, IsDensity, IsInterval}
use Rattle.array_form.specs.Homes.{Columns, home, greatest, least}
use Rattle.array_form.specs.Lists.{stretch}
use Rattle.array_form.specs.Laying.{AreTracks, band_segment, band_segments, column_lines, band_lines, column_marks}
use Rattle.array_form.specs.Laying.{band_marks}
use Rattle.array_form.specs.Place.{cols_in, interval_of, intervals_in}
use Rattle.array_form.proofs.Rows.{rows_few}
use Rattle.array_form.proofs.Tracking.{tracks_from}
use Rattle.band_lists.specs.Listed.{AreRows, segment_of, segments_of, nowhere, lines_at, lines_of, marks_in, marks_of}

module _ (y : Columns) (parts : List Part) where
  pub intervals_long : length (intervals_in y parts) ≡ length parts + 3
  intervals_long =
      length-map-range_with_len (λ k. interval_of (cols_in y parts k)) 0 (length parts + 3)

  interval_at : (k : ℕ) (d : Interval) → k < length parts + 3
      → get_or (intervals_in y parts) k d ≡ interval_of
      (cols_in y parts k)
  interval_at k d lt =
      get_or-map-range_with_len (λ k. interval_of (cols_in y parts k)) 0
      (length parts + 3) k k d lt (omega arith)

  pub intervals_all : ((k : ℕ) → k < length parts + 3
      → IsInterval (interval_of (cols_in y parts k)))
      → All IsInterval (intervals_in y parts)
  intervals_all h k d lt =
      let l = intervals_long in
      let b : k < length parts + 3 = omega arith in
      subst IsInterval (sym (interval_at k d b)) (h k b)

  pub intervals_few : IsNet parts → length (intervals_in y parts) < 2 ^ 32
  intervals_few n = let l = intervals_long in let f = n.few_nets in omega arith

  -- packed rows are tracks
  pub rows_of : (tracks : Tracks) → IsNet parts → length tracks.row ≡ length (intervals_in y parts)
      → All (λ row. row < tracks.rows) tracks.row → IsDensity (intervals_in y parts) tracks.rows tracks.column
      → AreRows tracks (length parts + 3)
  rows_of tracks is_net long within density = record {
    long = long ∙ intervals_long;
    below = within;
    few = let r = rows_few y parts tracks.rows tracks.column density in let f = is_net.few_nets in omega arith;
  }

  pub tracks_of : (tracks : Tracks) → length tracks.row ≡ length (intervals_in y parts)
      → All (λ row. row < tracks.rows) tracks.row → AreApart (intervals_in y parts) tracks.row
      → AreTracks y parts (cols_in y parts) (slice_index tracks.row) tracks.rows
  tracks_of tracks long within apart =
      tracks_from y parts (slice_index tracks.row) tracks.rows
      (λ k lt. within k 0 (let l = row_long in omega arith)) lie_apart
    where
      row_long : length tracks.row ≡ length parts + 3
      row_long = long ∙ intervals_long

      some_interval : (k : ℕ) → k < length parts + 3
          → slice_get (intervals_in y parts) k ≡ Some (interval_of (cols_in y parts k))
      some_interval k lt =
          slice_get-get_or (intervals_in y parts) k nowhere (let l = intervals_long in omega arith)
          ∙ ap Some (interval_at k nowhere lt)

      some_row : (k : ℕ) → k < length parts + 3 → slice_get tracks.row k ≡ Some (slice_index tracks.row k)
      some_row k lt = slice_get-get_or tracks.row k 0 (let l = row_long in omega arith)

      lie_apart : (i j : ℕ) → i < length parts + 3 → j < length parts + 3 → i ≢ j
          → slice_index tracks.row i ≡ slice_index tracks.row j
          → (greatest (cols_in y parts i) + 1 < least (cols_in y parts j))
          ⊎ (greatest (cols_in y parts j) + 1 < least (cols_in y parts i))
      lie_apart i j hi hj ne e =
          apart i j (slice_index tracks.row i) (interval_of (cols_in y parts i)) (interval_of (cols_in y parts j))
          ne (some_interval i hi) (some_row i hi) (some_interval j hj) (some_row j hj ∙ ap Some (sym e))

  -- ---- what is listed
  pub segments_same : (b : ℕ) (rows : List ℕ) → segments_of b (intervals_in y parts) rows
      ≡ band_segments b (cols_in y parts) (slice_index rows) parts
  segments_same b rows =
      ap (λ n. map (segment_of b (intervals_in y parts) rows) (range_with_len 0 n))
      intervals_long
      ∙ map_same (segment_of b (intervals_in y parts) rows)
      (band_segment b (cols_in y parts) (slice_index rows)) 0 (length parts + 3)
      (λ k lo hi. ap (λ (s : Interval). stretch b (suc (slice_index rows k)) s.first s.last)
      (interval_at k nowhere (omega arith)))

module _ (y : Columns) (parts : List Part) (columns : List ℕ) (stubs : List Bool)
    (columns_are : columns ≡ map (home y) (range_with_len 0 (length parts)))
    (stubs_are : stubs ≡ map y.stub (range_with_len 0 (length parts))) where
  pub column_is : (n : ℕ) → n < length parts → get_or columns n 0 ≡ home y n
  column_is n lt = ap (λ l. get_or l n 0) columns_are
      ∙ get_or-map-range_with_len (home y) 0 (length parts) n n 0 lt (omega arith)

  pub stub_is : (n : ℕ) → n < length parts → get_or stubs n false ≡ y.stub n
  stub_is n lt = ap (λ l. get_or l n false) stubs_are
      ∙ get_or-map-range_with_len y.stub 0 (length parts) n n false lt (omega arith)

  pub columns_long : length columns ≡ length parts
  columns_long = ap length columns_are ∙ length-map-range_with_len (home y) 0 (length parts)

  pub stubs_long : length stubs ≡ length parts
  stubs_long = ap length stubs_are ∙ length-map-range_with_len y.stub 0 (length parts)

  pub lines_same : (b : ℕ) → lines_of b columns stubs parts ≡ band_lines b y parts
  lines_same b = flat_same (lines_at b columns stubs parts)
      (λ n. column_lines b (home y n) (y.stub n) (slice_get parts n)) 0
      (length parts)
      (λ n lo hi. let c = column_is n (omega arith) in let s = stub_is n (omega arith) in
      λ i. column_lines b (c i) (s i) (slice_get parts n))

  pub marks_same : (b : ℕ) (tracks : Tracks) → marks_of tracks b columns stubs parts
      ≡ band_marks b (suc tracks.rows) (slice_index tracks.row) y parts
  marks_same b tracks = flat_same (marks_in tracks b columns stubs parts)
      (λ n. column_marks b (suc tracks.rows) (slice_index tracks.row) (length parts) (home y n)
      (y.stub n) n (slice_get parts n)) 0 (length parts)
      (λ n lo hi. let c = column_is n (omega arith) in let s = stub_is n (omega arith) in
      λ i. column_marks b (suc tracks.rows) (slice_index tracks.row) (length parts) (c i) (s i) n (slice_get parts n))
