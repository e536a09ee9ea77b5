-- The layout of slices: its lists at each number.
use Rattle.std.proofs.Common.{◌≡◌, ℕ, ◌+◌, ◌<◌, ◌^◌, Bool, false, List, length, map, get_or, refl, ◌∙◌, ap, arith}
use Rattle.std.specs.Prelude.{All}
use Rattle.std.specs.List.{range_with_len}
use Rattle.std.proofs.lemmas.List.FromFn.{get_or-map-range_with_len, length-map-range_with_len}
use Rattle.nor_net.specs.Shape.{IsNet}
use Rattle.track_assign.specs.Density.{IsInterval}
use Rattle.array_form.specs.Homes.{home, end_of}
use Rattle.array_form.specs.Place.{intervals_in}
use Rattle.array_form.proofs.Homes.{count_most}
use Rattle.path_form.specs.declared.path.DataPath.{DataPath}
use Rattle.slice_form.specs.Path.{Path}
use Rattle.slice_form.specs.Slices.{slice_columns, slice_stub}
use Rattle.slice_form.specs.Whole.{path_of}
use Rattle.band_lists.proofs.Banded.{intervals_all}
use Rattle.slice_layout.specs.Layouts.{AreSliceStubs}
use Rattle.slice_layout.proofs.Ends.{has_ends}
use Rattle.slice_layout.proofs.SliceSpans.{is_interval}

module _ (p : DataPath) where
  abbrev q : Path
  q = path_of p

  abbrev nets : ℕ
  nets = length p.slices.net

  pub stubs_at : (stubs : List Bool) → AreSliceStubs q stubs → (n : ℕ) → n < nets
      → get_or stubs n false ≡ slice_stub q n
  stubs_at stubs are n lt = ap (λ l. get_or l n false) are
      ∙ get_or-map-range_with_len (slice_stub q) 0 nets n n false lt (omega arith)

  pub stubs_long : (stubs : List Bool) → AreSliceStubs q stubs → length stubs ≡ nets
  stubs_long stubs are = ap length are ∙ length-map-range_with_len (slice_stub q) 0 nets

  pub columns_at : (columns : List ℕ) → columns ≡ map (home (slice_columns q)) (range_with_len 0 nets)
      → (n : ℕ) → n < nets → get_or columns n 0 ≡ home (slice_columns q) n
  columns_at columns are n lt = ap (λ l. get_or l n 0) are
      ∙ get_or-map-range_with_len (home (slice_columns q)) 0 nets n n 0 lt (omega arith)

  pub columns_long : (columns : List ℕ) → columns ≡ map (home (slice_columns q)) (range_with_len 0 nets)
      → length columns ≡ nets
  columns_long columns are = ap length are ∙ length-map-range_with_len (home (slice_columns q)) 0 nets

  pub all_intervals : IsNet p.slices.net → All IsInterval (intervals_in (slice_columns q) p.slices.net)
  all_intervals is_net =
      let stubs = map (slice_stub q) (range_with_len 0 nets) in
      let columns = map (home (slice_columns q)) (range_with_len 0 nets) in
      intervals_all (slice_columns q) p.slices.net
      (is_interval q (has_ends p) is_net stubs (stubs_at stubs refl) (stubs_long stubs refl) columns
      (columns_at columns refl) (columns_long columns refl))

  pub end_small : IsNet p.slices.net → end_of (slice_columns q) p.slices.net + 1 < 2 ^ 32
  end_small is_net =
      let f = (has_ends p).few in
      let m = count_most (slice_columns q).homed nets in
      let g = is_net.few_nets in omega arith
