-- What is added for a band is what its names say, and each tie stands where its wires cross.
use Rattle.std.proofs.Common.{◌≡◌, inl, inr, ℕ, zero, suc, ◌<◌, ◌+◌, Option, Some, None, Bool, true}
use Rattle.std.proofs.Common.{false, List, [], ◌∷◌, ◌++◌, length, map, refl, sym, ◌∙◌, ap, subst, arith}
use Rattle.std.specs.Prelude.{Contains, flat_map, slice_get}
use Rattle.std.specs.List.{range_with_len}
use Rattle.std.proofs.lemmas.Option.{slice_get_within}
use Rattle.mp_base.proofs.Lists.{map_append}
use Rattle.std.proofs.lemmas.Simd.{map-map}
use Rattle.mp_base.proofs.Members.{Member}
use Rattle.tile_cells.specs.declared.tile.Tile.TheVariants.{TapL, TapR, PullUp}
use Rattle.fabric.specs.declared.thing.Side.{Side}
use Rattle.fabric.specs.declared.thing.Side.TheVariants.{L, R}
use Rattle.fabric.specs.declared.thing.Line.{Line}
use Rattle.fabric.specs.Switches.{Net, segment, line}
use Rattle.nor_net.specs.declared.net.Phase.{Phase}
use Rattle.nor_net.specs.declared.net.Phase.TheVariants.{A, B, C}
use Rattle.nor_net.specs.declared.net.NetId.{NetId}
use Rattle.nor_net.specs.declared.net.Part.{Part}
use Rattle.nor_net.specs.declared.net.Part.TheVariants.{Input, Gate, Latch}
use Rattle.array_form.specs.Named.{Tie, tran}
use Rattle.array_form.specs.Wires.{Wire, row, beat, left, right, place, NetTie, gate_own, gate_ground}
use Rattle.array_form.specs.Wires.{gate_pull, gate_input, latch_own, latch_data, latch_phase, stub_own}
use Rattle.array_form.specs.Lists.{Layout, net_of, mark_of, Crossing, upright, mark}
use Rattle.array_form.specs.Band.{inputs_of, net_columns, net_ties, band_rows, band_columns, band_ties}
use Rattle.array_form.specs.Homes.{home, marks, phase_number}
use Rattle.array_form.specs.Laying.{band_segment, band_segments, column_lines, band_lines, column_marks, band_marks}
use Rattle.array_form.specs.Laying.{AreTracks}
use Rattle.array_form.specs.BandLayout.{Bands, layout}
use Rattle.array_form.proofs.Homes.{least_below, greatest_above, own_mark, input_mark, data_mark, phase_mark}

map_flat : {A B C' : Type 0} (g : A → B) (h : C' → List A) (k : C' → List B) → ((c : C') → map g (h c) ≡ k c)
    → (cs : List C') → map g (flat_map h cs) ≡ flat_map k cs
map_flat g h k e [] = refl
map_flat g h k e (c ∷ cs) = map_append g (h c) (flat_map h cs)
    ∙ (ap (λ l. l ++ map g (flat_map h cs)) (e c) ∙ ap (λ l. k c ++ l) (map_flat g h k e cs))

range_more : (a n : ℕ) → range_with_len a (n + 3) ≡ range_with_len a n ++ ((a + n) ∷ (a + n + 1) ∷ (a + n + 2) ∷ [])
range_more a zero =
    let e0 : a ≡ a + 0 = omega arith in let e1 : a + 1 ≡ a + 0 + 1 = omega arith in
    let e2 : a + 1 + 1 ≡ a + 0 + 2 = omega arith in
    λ i. e0 i ∷ e1 i ∷ e2 i ∷ []
range_more a (suc n) =
    let e0 : a + 1 + n ≡ a + suc n = omega arith in
    let r = range_more (a + 1) n in
    let s : suc n + 3 ≡ suc (n + 3) = omega arith in
    subst (λ z. range_with_len a z ≡ range_with_len a (suc n) ++
    ((a + suc n) ∷ (a + suc n + 1) ∷ (a + suc n + 2) ∷ [])) (sym s)
    (ap (λ l. a ∷ l)
    (subst (λ z. range_with_len (a + 1) (n + 3) ≡ range_with_len (a + 1) n ++ (z ∷ (z + 1) ∷ (z + 2) ∷ [])) e0 r))

module _ (X : Type 0) (d : Bands) (across : X → Line) (ground_at : X → ℕ) (b : ℕ) where
  abbrev pub y : Layout X
  y = layout X d across ground_at

  -- the segments of the band are those of its names
  pub rows_named : map segment (band_segments b (d.cols b) (d.row b) (d.parts b)) ≡ map (net_of X y)
      (band_rows X b (d.parts b))
  rows_named =
      map-map segment (band_segment b (d.cols b) (d.row b)) (range_with_len 0 (length (d.parts b) + 3))
      ∙ (ap (map (λ k. segment (band_segment b (d.cols b) (d.row b) k))) (range_more 0 (length (d.parts b)))
      ∙ (map_append (λ k. segment (band_segment b (d.cols b) (d.row b) k)) (range_with_len 0 (length (d.parts b)))
      ((0 + length (d.parts b)) ∷ (0 + length (d.parts b) + 1) ∷ (0 + length (d.parts b) + 2) ∷ [])
      ∙ (ends
      ∙ sym (map_append (net_of X (layout X d across ground_at))
      (map (λ n. row (place b n)) (range_with_len 0 (length (d.parts b)))) (beat b A ∷ beat b B ∷ beat b C ∷ [])
      ∙ ap (λ l. l ++ map (net_of X (layout X d across ground_at)) (beat b A ∷ beat b B ∷ beat b C ∷ []))
      (map-map (net_of X (layout X d across ground_at)) (λ n. row (place b n))
      (range_with_len 0 (length (d.parts b))))))))
    where
      s : ℕ → Net
      s k = segment (band_segment b (d.cols b) (d.row b) k)

      ends : map s (range_with_len 0 (length (d.parts b))) ++
          (s (0 + length (d.parts b)) ∷ s (0 + length (d.parts b) + 1) ∷ s (0 + length (d.parts b) + 2) ∷ [])
          ≡ map s (range_with_len 0 (length (d.parts b))) ++
          (s (length (d.parts b) + 0) ∷ s (length (d.parts b) + 1) ∷ s (length (d.parts b) + 2) ∷ [])
      ends =
          let e0 : 0 + length (d.parts b) ≡ length (d.parts b) + 0 = omega arith in
          let e1 : 0 + length (d.parts b) + 1 ≡ length (d.parts b) + 1 = omega arith in
          let e2 : 0 + length (d.parts b) + 2 ≡ length (d.parts b) + 2 = omega arith in
          λ i. map s (range_with_len 0 (length (d.parts b))) ++ (s (e0 i) ∷ s (e1 i) ∷ s (e2 i) ∷ [])

  part_columns : (n : ℕ) (t : Bool) (q : Option Part)
      → map line (column_lines b (home (d.columns b) n) t q) ≡ map (net_of X y) (net_columns X b n t q)
  part_columns n t None = refl
  part_columns n true (Some Input) = refl
  part_columns n false (Some Input) = refl
  part_columns n t (Some (Gate ins)) = refl
  part_columns n t (Some (Latch ph None)) = refl
  part_columns n t (Some (Latch ph (Some s))) = refl

  pub columns_named : map line (band_lines b (d.columns b) (d.parts b)) ≡ map (net_of X y)
      (band_columns X b (d.columns b).stub (d.parts b))
  columns_named =
      map_flat line (λ n. column_lines b (home (d.columns b) n) ((d.columns b).stub n) (slice_get (d.parts b) n))
      (λ n. map line (column_lines b (home (d.columns b) n) ((d.columns b).stub n) (slice_get (d.parts b) n)))
      (λ n. refl) (range_with_len 0 (length (d.parts b)))
      ∙ sym (map_flat (net_of X y) (λ n. net_columns X b n ((d.columns b).stub n) (slice_get (d.parts b) n))
      (λ n. map line (column_lines b (home (d.columns b) n) ((d.columns b).stub n) (slice_get (d.parts b) n)))
      (λ n. sym (part_columns n ((d.columns b).stub n) (slice_get (d.parts b) n)))
      (range_with_len 0 (length (d.parts b))))

  part_ties : (n : ℕ) (t : Bool) (q : Option Part)
      → column_marks b (d.rows b) (d.row b) (length (d.parts b)) (home (d.columns b) n) t n q ≡ map (mark_of X y)
      (net_ties X b n t q)
  part_ties n t None = refl
  part_ties n true (Some Input) = refl
  part_ties n false (Some Input) = refl
  part_ties n t (Some (Gate ins)) =
      ap (λ l. mark TapL b (suc (d.row b n)) (home (d.columns b) n) ∷ mark TapR b 0
      (home (d.columns b) n) ∷ mark PullUp b (d.rows b) (home (d.columns b) n) ∷ l)
      (sym (map-map (mark_of X (layout X d across ground_at))
      (λ i. tran (row (place b i)) (left (place b n)) (right (place b n))) (inputs_of ins)))
  part_ties n t (Some (Latch ph None)) = refl
  part_ties n t (Some (Latch ph (Some s))) = refl

  pub marks_named : band_marks b (d.rows b) (d.row b) (d.columns b) (d.parts b) ≡ map (mark_of X y)
      (band_ties X b (d.columns b).stub (d.parts b))
  marks_named = sym (map_flat (mark_of X y) (λ n. net_ties X b n ((d.columns b).stub n) (slice_get (d.parts b) n))
      (λ n. column_marks b (d.rows b) (d.row b) (length (d.parts b)) (home (d.columns b) n) ((d.columns b).stub n) n
      (slice_get (d.parts b) n))
      (λ n. sym (part_ties n ((d.columns b).stub n) (slice_get (d.parts b) n)))
      (range_with_len 0 (length (d.parts b))))

  -- each tie of the band stands where its wires cross
  pub net_crossing : (k : ℕ) → AreTracks (d.columns b) (d.parts b) (d.cols b) (d.row b) k
      → ((n : ℕ) (ins : List NetId) → slice_get (d.parts b) n ≡ Some (Gate ins) → (d.columns b).homed n ≡ true)
      → ((n : ℕ) (ph : Phase) (s : NetId) → slice_get (d.parts b) n ≡ Some (Latch ph (Some s))
      → (d.columns b).homed n ≡ true)
      → ((n : ℕ) (ins : List NetId) (i : NetId) → slice_get (d.parts b) n ≡ Some (Gate ins) → Contains ins i
      → i.0 < length (d.parts b))
      → ((n : ℕ) (ph : Phase) (s : NetId) → slice_get (d.parts b) n ≡ Some (Latch ph (Some s))
      → s.0 < length (d.parts b))
      → ((n : ℕ) → (d.columns b).stub n ≡ true → (d.columns b).homed n ≡ true)
      → (t : Tie (Wire X)) → NetTie X b (d.parts b) (d.columns b).stub t → Crossing X y t
  net_crossing k tracks gates latches ins_in data_in stubs t h = go t h
    where
      own : (n : ℕ) (q : Part) → slice_get (d.parts b) n ≡ Some q → (d.columns b).homed n ≡ true
          → Member (d.cols b n) (home (d.columns b) n)
      own n q h e =
          subst (λ z. Member z (home (d.columns b) n)) (sym (tracks.nets n (slice_get_within (d.parts b) n q h)))
          (own_mark (d.columns b) (d.parts b) n e)

      in_cols : (n c : ℕ) → n < length (d.parts b) → Member (marks (d.columns b) (d.parts b) n) c
          → Member (d.cols b n) c
      in_cols n c lt m = subst (λ z. Member z c) (sym (tracks.nets n lt)) m

      stands : (side : Side) (n : ℕ)
          → Rattle.fabric.specs.Plan.Passes (upright (home (d.columns b) n) side b b) side b (home (d.columns b) n)
      stands side n = record { column = refl; at_side = refl; first = omega arith; last = omega arith }

      crosses : (j c : ℕ) → Member (d.cols b j) c
          → Rattle.fabric.specs.Plan.Crosses (band_segment b (d.cols b) (d.row b) j) b (suc (d.row b j)) c
      crosses j c m =
          record {
            band = refl;
            row = refl;
            first = least_below (d.cols b j) c m;
            last =
                greatest_above (d.cols b j) c m;
          }

      go : (t : Tie (Wire X)) → NetTie X b (d.parts b) (d.columns b).stub t → Crossing X y t
      go t (gate_own n ins h) =
          (stands L n, inr (crosses n (home (d.columns b) n) (own n (Gate ins) h (gates n ins h))))
      go t (gate_ground n ins h) = (stands R n, inl (refl, refl))
      go t (gate_pull n ins h) = stands L n
      go t (gate_input n ins i h c) = (
        crosses i.0 (home (d.columns b) n)
            (in_cols i.0 (home (d.columns b) n) (ins_in n ins i h c)
            (input_mark (d.columns b) (d.parts b) n ins i h c)),
        stands L n,
        stands R n,
      )
      go t (latch_own n ph s h) =
          (stands L n, inr (crosses n (home (d.columns b) n) (own n (Latch ph (Some s)) h (latches n ph s h))))
      go t (latch_data n ph s h) = (
        stands R n,
        inr
            (crosses s.0 (home (d.columns b) n)
            (in_cols s.0 (home (d.columns b) n) (data_in n ph s h) (data_mark (d.columns b) (d.parts b) n ph s h))),
      )
      go t (latch_phase n ph s h) = (
        crosses (length (d.parts b) + phase_number ph) (home (d.columns b) n)
            (subst (λ z. Member z (home (d.columns b) n)) (sym (tracks.phases ph))
            (phase_mark (d.columns b) (d.parts b) n ph s h)),
        stands L n,
        stands R n,
      )
      go t (stub_own n h e) = (stands L n, inr (crosses n (home (d.columns b) n) (own n Input h (stubs n e))))
