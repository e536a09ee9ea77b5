-- The track groups of a path's fabric.
use Rattle.std.proofs.Common.{◌≡◌, ◌≢◌, ℕ, zero, suc, ◌<◌, ◌+◌, Some, Bool, cond}
use Rattle.std.proofs.Common.{List, [], ◌∷◌, ◌++◌, length, map, filter, replicate, refl, sym, ◌∙◌, ap, subst, arith}
use Rattle.std.specs.Prelude.{flat_map, slice_get, slice_index, ◌==◌}
use Rattle.std.specs.List.{range_with_len}
use Rattle.std.proofs.lemmas.Bool.{eq-eqb, ne_eqb}
use Rattle.std.proofs.lemmas.List.{append-nil, get_or-replicate, length-replicate}
use Rattle.std.proofs.lemmas.List.Elements.{filter-append}
use Rattle.std.proofs.lemmas.Option.{get_or_from_slice_get, same_Some, slice_get_within}
use Rattle.fabric.specs.declared.thing.Segment.{Segment}
use Rattle.fabric.specs.Plan.{Plan}
use Rattle.nor_net.specs.declared.net.Part.{Part}
use Rattle.track_assign.specs.declared.packing.Tracks.{Tracks}
use Rattle.track_assign.specs.Density.{IsDensity}
use Rattle.array_form.specs.Homes.{Columns}
use Rattle.array_form.specs.Laying.{band_segment, band_segments}
use Rattle.array_form.specs.Place.{cols_in, interval_of, intervals_in}
use Rattle.path_form.specs.declared.path.DataPath.{DataPath}
use Rattle.slice_form.specs.Path.{Path}
use Rattle.slice_form.specs.Slices.{columns_wanted, control_columns, slice_columns}
use Rattle.slice_form.specs.Whole.{path_of}
use Rattle.slice_laying.specs.Added.{slice_cols, slice_segments}
use Rattle.slice_chip.specs.Groups.{AreGroups, IsGroup, SlicedHasGroups, span_of, spans_in}
use Rattle.slice_chip.specs.Sliced.{control_cols, path_laid}
use Rattle.slice_chip.proofs.ControlRoom.{bands_are, rows_above}

-- ---- the segments of one band among those of all

abbrev in_band : ℕ → Segment → Bool
in_band b s = s.band == b

module _ (cols : ℕ → List ℕ) (row : ℕ → ℕ) (parts : List Part) where
  abbrev each : ℕ → List Segment
  each c = band_segments c cols row parts

  own : (b : ℕ) (xs : List ℕ)
      → filter (in_band b) (map (band_segment b cols row) xs) ≡ map (band_segment b cols row) xs
  own b [] = refl
  own b (x ∷ xs) =
      (λ i. cond (eq-eqb b b refl i) (band_segment b cols row x ∷ filter (in_band b) (map (band_segment b cols row) xs))
      (filter (in_band b) (map (band_segment b cols row) xs)))
      ∙ ap (λ l. band_segment b cols row x ∷ l) (own b xs)

  other : (b c : ℕ) → c ≢ b → (xs : List ℕ) → filter (in_band b) (map (band_segment c cols row) xs) ≡ []
  other b c d [] = refl
  other b c d (x ∷ xs) =
      (λ i. cond (ne_eqb c b d i) (band_segment c cols row x ∷ filter (in_band b) (map (band_segment c cols row) xs))
      (filter (in_band b) (map (band_segment c cols row) xs)))
      ∙ other b c d xs

  above : (b a n : ℕ) → b < a → filter (in_band b) (flat_map each (range_with_len a n)) ≡ []
  above b a zero h = refl
  above b a (suc n) h =
      filter-append (in_band b) (each a) (flat_map each (range_with_len (a + 1) n))
      ∙ (λ i. other b a (λ e. omega (arith, h, e)) (range_with_len 0 (length parts + 3)) i
      ++ above b (a + 1) n (omega (arith, h)) i)

  among : (a n k : ℕ) → k < n → filter (in_band (a + k)) (flat_map each (range_with_len a n)) ≡ each (a + k)
  among a zero k h = absurd (omega (arith, h))
  among a (suc n) zero h =
      let e : a + 0 ≡ a = omega arith in
      subst (λ b. filter (in_band b) (flat_map each (range_with_len a (suc n))) ≡ each b) (sym e)
      (filter-append (in_band a) (each a) (flat_map each (range_with_len (a + 1) n))
      ∙ (λ i. own a (range_with_len 0 (length parts + 3)) i ++ above a (a + 1) n (omega arith) i)
      ∙ append-nil (each a))
  among a (suc n) (suc k) h =
      let e : a + suc k ≡ a + 1 + k = omega arith in
      subst (λ b. filter (in_band b) (flat_map each (range_with_len a (suc n))) ≡ each b) (sym e)
      (filter-append (in_band (a + 1 + k)) (each a) (flat_map each (range_with_len (a + 1) n))
      ∙ (λ i. other (a + 1 + k) a (λ e. omega (arith, e)) (range_with_len 0 (length parts + 3)) i
      ++ among (a + 1) n k (omega (arith, h)) i))

-- what they span is what was packed
spans_packed : (b : ℕ) (y : Columns) (parts : List Part) (row : ℕ → ℕ) (xs : List ℕ)
    → map span_of (map (band_segment b (cols_in y parts) row) xs) ≡ map (λ k. interval_of (cols_in y parts k)) xs
spans_packed b y parts row [] = refl
spans_packed b y parts row (x ∷ xs) =
    ap (λ l. interval_of (cols_in y parts x) ∷ l) (spans_packed b y parts row xs)

-- ---- the groups

module _ (p : DataPath) (control slices : Tracks)
    (control_density : IsDensity (intervals_in (control_columns (path_of p)) p.control) control.rows control.column)
    (slice_density : IsDensity (intervals_in (slice_columns (path_of p)) p.slices.net) slices.rows slices.column)
  where
    abbrev whole : Path
    whole = path_of p

    abbrev f : Plan
    f = path_laid whole (columns_wanted whole) control slices

    abbrev low : List Segment
    low = band_segments 0 (control_cols whole) (slice_index control.row) p.control

    abbrev high : List Segment
    high = slice_segments whole (slice_index slices.row)

    split : (b : ℕ) → filter (in_band b) f.segments ≡ filter (in_band b) low ++ filter (in_band b) high
    split b = ap (filter (in_band b)) (append-nil (low ++ high)) ∙ filter-append (in_band b) low high

    of_control : spans_in f 0 ≡ intervals_in (control_columns whole) p.control
    of_control =
        ap (map span_of)
        (split 0
        ∙ (λ i. own (control_cols whole) (slice_index control.row) p.control 0
        (range_with_len 0 (length p.control + 3)) i
        ++ above (slice_cols whole) (slice_index slices.row) p.slices.net 0 1 p.width (omega arith) i)
        ∙ append-nil low)
        ∙ spans_packed 0 (control_columns whole) p.control (slice_index control.row)
        (range_with_len 0 (length p.control + 3))

    of_slice : (k : ℕ) → k < p.width → spans_in f (suc k) ≡ intervals_in (slice_columns whole) p.slices.net
    of_slice k lt =
        ap (map span_of)
        (split (suc k)
        ∙ (λ i. other (control_cols whole) (slice_index control.row) p.control (suc k) 0 (λ e. omega (arith, e))
        (range_with_len 0 (length p.control + 3)) i ++ filter (in_band (suc k)) high)
        ∙ from_one k lt)
        ∙ spans_packed (suc k) (slice_columns whole) p.slices.net (slice_index slices.row)
        (range_with_len 0 (length p.slices.net + 3))
      where
        from_one : (k : ℕ) → k < p.width → filter (in_band (suc k)) high
            ≡ band_segments (suc k) (slice_cols whole) (slice_index slices.row) p.slices.net
        from_one k lt =
            let e : 1 + k ≡ suc k = omega arith in
            subst (λ b. filter (in_band b) high
            ≡ band_segments b (slice_cols whole) (slice_index slices.row) p.slices.net) e
            (among (slice_cols whole) (slice_index slices.row) p.slices.net 1 p.width k lt)

    control_group : IsGroup f 0 control
    control_group = record {
      rows = refl;
      density = subst (λ l. IsDensity l control.rows control.column) (sym of_control) control_density;
    }

    slice_group : (k : ℕ) → k < p.width → IsGroup f (suc k) slices
    slice_group k lt = record {
      rows = rows_above whole control (columns_wanted whole) control.rows slices.rows (suc k)
          (omega arith, omega (arith, lt));
      density = subst (λ l. IsDensity l slices.rows slices.column) (sym (of_slice k lt)) slice_density;
    }

    group_at : (b : ℕ) (tracks : Tracks) → slice_get (control ∷ replicate p.width slices) b ≡ Some tracks
        → IsGroup f b tracks
    group_at zero tracks e = subst (IsGroup f 0) (same_Some control tracks e) control_group
    group_at (suc k) tracks e =
        let all = replicate p.width slices in
        let long = length-replicate p.width slices in
        let within = slice_get_within all k tracks e in
        let lt : k < p.width = omega (arith, long, within) in
        let is : slices ≡ tracks =
        sym (get_or-replicate p.width k slices slices lt) ∙ get_or_from_slice_get all k tracks slices e in
        subst (IsGroup f (suc k)) is (slice_group k lt)

    groups : AreGroups f (control ∷ replicate p.width slices)
    groups = record {
      count = ap suc (length-replicate p.width slices)
          ∙ sym (bands_are whole control (columns_wanted whole) control.rows slices.rows);
      each = group_at;
    }

pub sliced_has_groups : SlicedHasGroups
sliced_has_groups p f sliced =
    subst (λ f. AreGroups f (sliced.control ∷ replicate p.width sliced.slices)) (sym sliced.is)
    (groups p sliced.control sliced.slices sliced.control_density sliced.slice_density)
