-- The segments that are led to the west edge begin in column 1, and no two of them are in one row.
use Rattle.std.proofs.Common.{◌≡◌, inl, inr, ℕ, zero, suc, ◌<◌, ◌≤◌, ◌+◌, ◌==◌, Option, Some}
use Rattle.std.proofs.Common.{List, [], ◌∷◌, ◌++◌, length, map, refl, sym, ◌∙◌, ap, subst, arith}
use Rattle.std.specs.Prelude.{◌≢◌, slice_index, Contains}
use Rattle.std.specs.List.{range_with_len}
use Rattle.std.proofs.lemmas.Bool.{cases_eq}
use Rattle.mp_base.proofs.Members.{Member, any_of, member_contains, map_member, range_has, member_append, append_left}
use Rattle.mp_base.proofs.Members.{append_right, flat_member}
use Rattle.fabric.specs.declared.thing.Segment.{Segment}
use Rattle.fabric.specs.Plan.{Plan, IsFabric, IsSegment, BeginsAt}
use Rattle.nor_net.specs.declared.net.Phase.{Phase}
use Rattle.nor_net.specs.declared.net.Phase.TheVariants.{A, B, C}
use Rattle.track_assign.specs.declared.packing.Tracks.{Tracks}
use Rattle.array_form.specs.Homes.{greatest, least, phase_number}
use Rattle.array_form.specs.Laying.{band_segment, band_segments}
use Rattle.array_form.specs.Place.{west_column}
use Rattle.array_form.proofs.Homes.{greatest_above, least_below, more_mark, phase_more_mark}
use Rattle.array_form.proofs.Laid.{all_at}
use Rattle.array_form.proofs.Listing.{same_to}
use Rattle.array_form.proofs.West.{has_west}
use Rattle.slice_form.specs.Path.{Path, parts}
use Rattle.slice_form.specs.PathLists.{slices_of}
use Rattle.slice_form.specs.Slices.{columns_of, columns_wanted, control_columns, control_joints, is_west, slice_columns}
use Rattle.slice_form.specs.Slices.{slice_joints}
use Rattle.slice_laying.specs.Added.{of_phases, slice_cols, slice_segments}
use Rattle.slice_laying.specs.Fitting.{AreSliceTracks}
use Rattle.slice_laying.specs.Paths.{IsPlaceable}
use Rattle.slice_chip.specs.Sliced.{AreControlTracks, control_cols, path_laid}
use Rattle.slice_chip.specs.Unders.{led, rows_in}
use Rattle.slice_chip.proofs.TapsStand as stand

-- a phase, by the number of its segment
phase_led : (n k : ℕ) → Member (of_phases (λ ph. n + phase_number ph)) k → (ph : Phase) × (n + phase_number ph ≡ k)
phase_led n k (inl e) = (A, e)
phase_led n k (inr (inl e)) = (B, e)
phase_led n k (inr (inr (inl e))) = (C, e)
phase_led n k (inr (inr (inr m))) = absurd m

phase_small : (ph : Phase) → phase_number ph < 3
phase_small A = omega arith
phase_small B = omega arith
phase_small C = omega arith

module _ (p : Path) (ready : IsPlaceable p) (control slices : Tracks) (below : AreControlTracks p control)
    (above : AreSliceTracks p slices)
  where
    abbrev all : Plan
    all = path_laid p (columns_wanted p) control slices

    abbrev cols : ℕ → ℕ → List ℕ
    cols = stand.cols p ready control slices below above

    abbrev rows : ℕ → ℕ → ℕ
    rows = rows_in control slices

    -- each has a mark in column 1
    pub record IsLedOff (b k : ℕ) : Type 0 where
      pub there : k < length (parts p b) + 3
      pub column : Member (cols b k) 1

    signal_led : (k : ℕ) → Member p.west_signals k → IsLedOff 0 k
    signal_led k m =
        let lt = (ready.path).joined 0 k (member_contains p.west_signals k m) in
        record {
          there = omega (arith, lt);
          column = subst (λ l. Member l 1) (sym (below.nets k lt))
              (more_mark (control_columns p) p.control k 1
              (append_right (control_joints p k) (west_column (is_west p.west_signals k)) 1
              (has_west (is_west p.west_signals k)
              (any_of (λ w. w == k) p.west_signals k m (same_to k k refl)))));
        }

    beat_led : (ph : Phase) → IsLedOff 0 (length p.control + phase_number ph)
    beat_led ph = record {
      there = (let s = phase_small ph in omega (arith, s));
      column = subst (λ l. Member l 1) (sym (below.phases ph))
          (phase_more_mark (control_columns p) p.control ph 1 (inl refl));
    }

    word_led : (b k : ℕ) → Member p.west_words k → IsLedOff (suc b) k
    word_led b k m =
        let lt = (ready.path).joined 1 k (member_contains p.west_words k m) in
        record {
          there = omega (arith, lt);
          column = subst (λ l. Member l 1) (sym (above.nets k lt))
              (more_mark (slice_columns p) p.slice k 1
              (append_right (slice_joints p k) (west_column (is_west p.west_words k)) 1
              (has_west (is_west p.west_words k)
              (any_of (λ w. w == k) p.west_words k m (same_to k k refl)))));
        }

    pub is_led : (b k : ℕ) → Member (led p b) k → IsLedOff b k
    is_led zero k m =
        elim (member_append p.west_signals (of_phases (λ ph. length p.control + phase_number ph)) k m) [
          | inl h ↦ signal_led k h
          | inr h ↦ (let w = phase_led (length p.control) k h in subst (IsLedOff 0) w.1 (beat_led w.0))
        ]
    is_led (suc b) k m = word_led b k m

    -- the segments of all bands are there
    segment_there : (b k : ℕ) → b ≤ p.width → k < length (parts p b) + 3
        → Member all.segments (band_segment b (cols b) (rows b) k)
    segment_there zero k le lt =
        append_left (band_segments 0 (control_cols p) (slice_index control.row) p.control
        ++ slice_segments p (slice_index slices.row)) [] _
        (append_left (band_segments 0 (control_cols p) (slice_index control.row) p.control)
        (slice_segments p (slice_index slices.row)) _
        (map_member (band_segment 0 (control_cols p) (slice_index control.row))
        (range_with_len 0 (length p.control + 3)) k
        (range_has 0 (length p.control + 3) k (omega arith) (omega (arith, lt)))))
    segment_there (suc b) k le lt =
        append_left (band_segments 0 (control_cols p) (slice_index control.row) p.control
        ++ slice_segments p (slice_index slices.row)) [] _
        (append_right (band_segments 0 (control_cols p) (slice_index control.row) p.control)
        (slice_segments p (slice_index slices.row)) _
        (flat_member (λ b. band_segments b (slice_cols p) (slice_index slices.row) p.slice) (slices_of p) (suc b) _
        (range_has 1 p.width (suc b) (omega arith) (omega (arith, le)))
        (map_member (band_segment (suc b) (slice_cols p) (slice_index slices.row))
        (range_with_len 0 (length p.slice + 3)) k
        (range_has 0 (length p.slice + 3) k (omega arith) (omega (arith, lt))))))

    module _ (lawful : IsFabric all) where
      pub first_one : (b k : ℕ) → b ≤ p.width → Member (led p b) k → least (cols b k) ≡ 1
      first_one b k le m =
          let l = is_led b k m in
          let low = least_below (cols b k) 1 l.column in
          let some = (all_at (IsSegment all) all.segments (band_segment b (cols b) (rows b) k) lawful.segments
          (segment_there b k le l.there)).first in
          omega (arith, low, some)

      pub begins : (b k : ℕ) → b ≤ p.width → Member (led p b) k → BeginsAt all b (suc (rows b k))
      begins b k le m = (
        band_segment b (cols b) (rows b) k,
        member_contains all.segments (band_segment b (cols b) (rows b) k) (segment_there b k le (is_led b k m).there),
        refl,
        refl,
        first_one b k le m,
      )

      rows_same : (b k : ℕ) → rows b k ≡ stand.rows p ready control slices below above b k
      rows_same zero k = refl
      rows_same (suc b) k = refl

      pub rows_differ : (b i j : ℕ) → b ≤ p.width → Member (led p b) i → Member (led p b) j → i ≢ j
          → rows b i ≡ rows b j → ⊥
      rows_differ b i j le m n ne e =
          let u = is_led b i m in
          let v = is_led b j n in
          let a = first_one b i le m in
          let d = first_one b j le n in
          let g = greatest_above (cols b i) 1 u.column in
          let h = greatest_above (cols b j) 1 v.column in
          elim ((stand.tracks_at p ready control slices below above b le).apart i j
          (let x = u.there in omega (arith, x))
          (let x = v.there in omega (arith, x)) ne (sym (rows_same b i) ∙ (e ∙ rows_same b j))) [
            | inl lt ↦ absurd (omega (arith, lt, d, g))
            | inr lt ↦ absurd (omega (arith, lt, a, h))
          ]
