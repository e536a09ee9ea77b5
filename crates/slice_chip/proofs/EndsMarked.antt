-- The first and the last column of each segment of a path's fabric carry a mark on it.
use Rattle.std.proofs.Common.{◌≡◌, inl, inr, ℕ, zero, suc, ◌<◌, ◌≤◌, ◌+◌, Option, Some, None, Bool, true, false}
use Rattle.std.proofs.Common.{cond, List, [], ◌∷◌, ◌++◌, length, map, refl, sym, ◌∙◌, ap, subst, arith, not}
use Rattle.std.specs.Prelude.{slice_get, slice_index, ◌==◌, ◌||◌, ◌&&◌, ◌⊎◌, Contains}
use Rattle.std.specs.List.{list_any, range_with_len}
use Rattle.std.proofs.lemmas.Bool.{and_from, cases_Bool, cases_eq, cases_lt, true≢false, or_cases, or_left, or_right}
use Rattle.std.proofs.lemmas.Option.{none-some, slice_get_cases}
use Rattle.mp_base.proofs.Members.{Member, member_contains, contains_member, member_map, member_filter, range_members}
use Rattle.mp_base.proofs.Members.{any_of, append_left, append_right, member_append, member_flat}
use Rattle.mp_base.proofs.Entries.{some_entry, any_found, contains_from_get}
use Rattle.fabric.specs.declared.thing.Mark.{Mark}
use Rattle.fabric.specs.declared.thing.Segment.{Segment}
use Rattle.fabric.specs.declared.thing.Side.TheVariants.{L, R}
use Rattle.fabric.specs.Plan.{Plan, IsSegment}
use Rattle.nor_net.specs.declared.net.NetId.{NetId}
use Rattle.nor_net.specs.declared.net.Phase.{Phase}
use Rattle.nor_net.specs.declared.net.Phase.TheVariants.{A, B, C}
use Rattle.nor_net.specs.declared.net.Part.{Part}
use Rattle.nor_net.specs.declared.net.Part.TheVariants.{Input, Gate, Latch}
use Rattle.nor_net.specs.Elements.{Element, Spot, spot}
use Rattle.track_assign.specs.declared.packing.Tracks.{Tracks}
use Rattle.array_form.specs.Homes.{beats, greatest, home, least, marks, numbers, phase_marks}
use Rattle.array_form.specs.Homes.{phase_number, reads}
use Rattle.array_form.specs.Laying.{AreTracks, band_segment, band_segments}
use Rattle.array_form.specs.Lists.{mark_of}
use Rattle.array_form.specs.Named.{Tie, tap, tran}
use Rattle.array_form.specs.Wires.{Wire, row, beat, left, right, trunk, extra, place, gate_own, gate_input, latch_own}
use Rattle.array_form.specs.Wires.{latch_data, latch_phase, stub_own}
use Rattle.array_form.proofs.Homes.{greatest_above, greatest_in, least_below, least_in, own_mark, reader_mark}
use Rattle.array_form.proofs.West.{west_of}
use Rattle.array_form.proofs.Laid.{all_at}
use Rattle.array_form.proofs.Listing.{has_member, same_from, same_to}
use Rattle.array_form.proofs.Ends.{one_phase}
use Rattle.slice_form.specs.Path.{Path, Carry, Cast, Lift, Programmed, IsElement, IsSlice, open_band, parts, west}
use Rattle.slice_form.specs.Path.{gate, store, pad, cast, lift, next, open_end, one, zero_bit}
use Rattle.slice_form.specs.PathLists.{slices_of}
use Rattle.slice_form.specs.PathWires.{Across, cast_line, lift_line, lift_stub, chain_line, side_of, below, above}
use Rattle.slice_form.specs.PathWires.{PathTie, of_net, of_phase, of_cast, of_cast_slice, of_lift, of_lift_slice}
use Rattle.slice_form.specs.PathWires.{of_lift_stub, of_below, of_above, of_one, of_zero}
use Rattle.slice_form.specs.Slices.{cast_columns, chain_column, chain_starts, columns_of, columns_wanted}
use Rattle.slice_form.specs.Slices.{any_below, control_columns, control_joints, is_unread, is_west, slice_joints}
use Rattle.slice_form.proofs.Below.{below_member}
use Rattle.slice_form.proofs.Crossing.{cast_has, control_joint, homed_bit, homed_end, lift_has, slice_joint, start_has}
use Rattle.slice_laying.proofs.SliceColumns.{homed_part, homed_stub, reads_some}
use Rattle.slice_form.specs.Slices.{control_stub, lift_column, lift_columns_of, plain_slice}
use Rattle.array_form.specs.Place.{is_input, part_is, west_column}
use Rattle.slice_form.specs.Slices.{slice_columns, slice_homed, slice_stub}
use Rattle.slice_form.specs.Whole.{path_of}
use Rattle.slice_form.proofs.Lists.{slice_in}
use Rattle.slice_form.proofs.Columned.{cast_of_column, lift_of_column, chain_of_column}
use Rattle.slice_laying.specs.Added.{of_phases, slice_cols, slice_segments}
use Rattle.slice_laying.specs.Fitting.{AreSliceTracks}
use Rattle.slice_laying.specs.Paths.{IsPlaceable}
use Rattle.slice_laying.proofs.WholePaths.{placeable}
use Rattle.slice_chip.specs.Ends.{EndsAreMarked, IsMarkedAt, IsWest}
use Rattle.slice_chip.specs.Unders.{led, rows_in}
use Rattle.slice_chip.specs.Sliced.{AreControlTracks, control_cols, path_laid}
use Rattle.slice_chip.proofs.MadeOf as made
use Rattle.slice_chip.proofs.MarksOf.{has_tie}
use Rattle.slice_chip.proofs.TapsStand as stand

-- ---- how a column comes to a list

-- three segments stand behind those of nets, one for each phase
pub phase_of : (k n : ℕ) → n ≤ k → k < n + 3 → (ph : Phase) × (n + phase_number ph ≡ k)
phase_of k n h lt = elim (cases_eq k n) [
  | inl e ↦ (A, (let f : n + 0 ≡ k = omega (arith, e) in f))
  | inr a ↦ elim (cases_eq k (n + 1)) [
    | inl e ↦ (B, (let f : n + 1 ≡ k = omega (arith, e) in f))
    | inr b ↦ (C, (let f : n + 2 ≡ k = omega (arith, h, lt, a, b) in f))
  ]
]

-- the least and the greatest of a list that isn't empty are in it
ends : (xs : List ℕ) → 1 ≤ least xs → Member xs (least xs) × Member xs (greatest xs)
ends [] h = absurd (omega (arith, h))
ends (x ∷ xs) h = (least_in x xs, greatest_in x xs)

module _ (p : Path) (ready : IsPlaceable p) (control slices : Tracks) (control_tracks : AreControlTracks p control)
    (slice_tracks : AreSliceTracks p slices)
  where
    abbrev stub : ℕ → ℕ → Bool
    stub = made.stub p ready control slices control_tracks slice_tracks

    abbrev m : Tie (Wire Across) → Mark
    m = mark_of Across (made.y p ready control slices control_tracks slice_tracks)

    abbrev rows : ℕ → ℕ → ℕ
    rows = stand.rows p ready control slices control_tracks slice_tracks

    -- a tie on segment k of band b in column c
    record HasTie (b k c : ℕ) : Type 0 where
      tie : Tie (Wire Across)
      is : PathTie p stub tie
      band : (m tie).band ≡ b
      row : (m tie).row ≡ suc (rows b k)
      column : (m tie).column ≡ c

    in_column : (b k c d : ℕ) → c ≡ d → HasTie b k c → HasTie b k d
    in_column b k c d e t = subst (HasTie b k) e t

    -- ---- the own column of a net

    chain_tie : (i : ℕ) (c : Carry) (k : ℕ) → slice_get p.chains i ≡ Some c → k < p.width
        → HasTie (suc k) c.to (home (plain_slice p) c.to) × HasTie (suc k) c.start (home (plain_slice p) c.to)
    chain_tie i c k h lt = by_way c.up refl
      where
        column_is : chain_column p (slice_get p.chains i) ≡ home (plain_slice p) c.to
        column_is = ap (chain_column p) h

        lower : HasTie (suc k) (below c) (home (plain_slice p) c.to)
        lower = record {
          tie = tap (side_of k) (extra (chain_line i k)) (row (place (suc k) (below c)));
          is = of_below i c k h lt;
          band = refl;
          row = refl;
          column = column_is;
        }

        upper : HasTie (suc k) (above c) (home (plain_slice p) c.to)
        upper = record {
          tie = tap (side_of (suc k)) (extra (chain_line i (suc k))) (row (place (suc k) (above c)));
          is = of_above i c k h (omega (arith, lt));
          band = refl;
          row = refl;
          column = column_is;
        }

        by_way : (t : Bool) → c.up ≡ t
            → HasTie (suc k) c.to (home (plain_slice p) c.to) × HasTie (suc k) c.start (home (plain_slice p) c.to)
        by_way true e = (
          subst (λ n. HasTie (suc k) n (home (plain_slice p) c.to)) (ap (λ t. cond t c.to c.start) e) lower,
          subst (λ n. HasTie (suc k) n (home (plain_slice p) c.to)) (ap (λ t. cond t c.start c.to) e) upper,
        )
        by_way false e = (
          subst (λ n. HasTie (suc k) n (home (plain_slice p) c.to)) (ap (λ t. cond t c.start c.to) e) upper,
          subst (λ n. HasTie (suc k) n (home (plain_slice p) c.to)) (ap (λ t. cond t c.to c.start) e) lower,
        )

    bit_tie : (i : ℕ) (g : Programmed) (k : ℕ) → slice_get p.programs i ≡ Some g → k < p.width
        → HasTie (suc k) g.net (home (plain_slice p) g.net)
    bit_tie i g k h lt = by_bit there.0 there.1
      where
        there : (b : Bool) × (slice_get g.bits k ≡ Some b)
        there = some_entry g.bits k (let l = ((ready.path).programs i g h).1 in omega (arith, l, lt))

        by_bit : (b : Bool) → slice_get g.bits k ≡ Some b → HasTie (suc k) g.net (home (plain_slice p) g.net)
        by_bit true e = record {
          tie = tap L (left (place (suc k) g.net)) (row (place (suc k) g.net));
          is = of_one i g k h (omega (arith, lt)) e;
          band = refl;
          row = refl;
          column = refl;
        }
        by_bit false e = record {
          tie = tap R (right (place (suc k) g.net)) (row (place (suc k) g.net));
          is = of_zero i g k h (omega (arith, lt)) e;
          band = refl;
          row = refl;
          column = refl;
        }

    gate_tie : (b n : ℕ) (ins : List NetId) → b ≤ p.width → slice_get (parts p b) n ≡ Some (Gate ins)
        → HasTie b n (home (columns_of p b) n)
    gate_tie b n ins le h = record {
      tie = tap L (left (place b n)) (row (place b n));
      is = of_net b (tap L (left (place b n)) (row (place b n))) le (gate_own n ins h);
      band = refl;
      row = refl;
      column = refl;
    }

    latch_tie : (b n : ℕ) (ph : Phase) (d : NetId) → b ≤ p.width → slice_get (parts p b) n ≡ Some (Latch ph (Some d))
        → HasTie b n (home (columns_of p b) n)
    latch_tie b n ph d le h = record {
      tie = tap L (left (place b n)) (row (place b n));
      is = of_net b (tap L (left (place b n)) (row (place b n))) le (latch_own n ph d h);
      band = refl;
      row = refl;
      column = refl;
    }

    stub_tie : (b n : ℕ) → b ≤ p.width → slice_get (parts p b) n ≡ Some Input → stub b n ≡ true
        → HasTie b n (home (columns_of p b) n)
    stub_tie b n le h e = record {
      tie = tap L (left (place b n)) (row (place b n));
      is = of_net b (tap L (left (place b n)) (row (place b n))) le (stub_own n h e);
      band = refl;
      row = refl;
      column = refl;
    }

    -- an input of a slice with a column of its own: the end of a chain, a programmed net, or a stub
    input_tie : (k n : ℕ) → k < p.width → slice_get p.slice n ≡ Some Input → slice_homed p n ≡ true
        → HasTie (suc k) n (home (plain_slice p) n)
    input_tie k n lt h e =
        elim (or_cases (part_is (λ q. not (is_input q)) (slice_get p.slice n))
        (list_any (λ (c : Carry). c.to == n) p.chains ||
        (list_any (λ (g : Programmed). g.net == n) p.programs || slice_stub p n)) e) [
          | inl q ↦ absurd (true≢false (sym q ∙ ap (part_is (λ q. not (is_input q))) h))
          | inr q ↦ elim (or_cases (list_any (λ (c : Carry). c.to == n) p.chains)
              (list_any (λ (g : Programmed). g.net == n) p.programs || slice_stub p n) q) [
                | inl r ↦ (let w = any_found (λ (c : Carry). c.to == n) p.chains r in
                    let same = same_from w.1.to n w.3 in
                    subst (λ m. HasTie (suc k) m (home (plain_slice p) m)) same (chain_tie w.0 w.1 k w.2 lt).0)
                | inr r ↦ elim (or_cases (list_any (λ (g : Programmed). g.net == n) p.programs) (slice_stub p n) r) [
                  | inl s ↦ (let w = any_found (λ (g : Programmed). g.net == n) p.programs s in
                      let same = same_from w.1.net n w.3 in
                      subst (λ m. HasTie (suc k) m (home (plain_slice p) m)) same (bit_tie w.0 w.1 k w.2 lt))
                  | inr s ↦ stub_tie (suc k) n (omega (arith, lt)) h s
                ]
              ]
        ]

    control_input_tie : (n : ℕ) → slice_get p.control n ≡ Some Input → (control_columns p).homed n ≡ true
        → HasTie 0 n (home (control_columns p) n)
    control_input_tie n h e =
        elim (or_cases (part_is (λ q. not (is_input q)) (slice_get p.control n)) (control_stub p n) e) [
          | inl q ↦ absurd (true≢false (sym q ∙ ap (part_is (λ q. not (is_input q))) h))
          | inr q ↦ stub_tie 0 n (omega arith) h q
        ]

    own_tie : (b n : ℕ) (o : Option Part) → b ≤ p.width → slice_get (parts p b) n ≡ o → n < length (parts p b)
        → (columns_of p b).homed n ≡ true → HasTie b n (home (columns_of p b) n)
    own_tie b n None le h lt e =
        elim (slice_get_cases (parts p b) n).1
        [ inl w ↦ absurd (none-some w.0 (sym h ∙ w.2)) | inr w ↦ absurd (let v = w.0 in omega (arith, v, lt)) ]
    own_tie zero n (Some Input) le h lt e = control_input_tie n h e
    own_tie (suc k) n (Some Input) le h lt e = input_tie k n (omega (arith, le)) h e
    own_tie b n (Some (Gate ins)) le h lt e = gate_tie b n ins le h
    own_tie b n (Some (Latch ph None)) le h lt e = absurd ((ready.path).fed b n ph h)
    own_tie b n (Some (Latch ph (Some d))) le h lt e = latch_tie b n ph d le h

    -- the tie of a net with a column of its own
    pub homed_tie : (b n : ℕ) → b ≤ p.width → n < length (parts p b) → (columns_of p b).homed n ≡ true
        → (tie : Tie (Wire Across)) × PathTie p stub tie × ((m tie).column ≡ home (columns_of p b) n)
    homed_tie b n le lt e =
        let t = own_tie b n (slice_get (parts p b) n) le refl lt e in (t.tie, t.is, t.column)

    -- ---- the columns of readers

    reader_tie : (b n j : ℕ) (o : Option Part) → b ≤ p.width → slice_get (parts p b) j ≡ o → reads n o ≡ true
        → HasTie b n (home (columns_of p b) j)
    reader_tie b n j None le h e = absurd (true≢false (sym e))
    reader_tie b n j (Some Input) le h e = absurd (true≢false (sym e))
    reader_tie b n j (Some (Gate ins)) le h e =
        let w = member_map (λ (i : NetId). i.0) ins n (has_member n (map (λ (i : NetId). i.0) ins) e) in
        subst (λ k. HasTie b k (home (columns_of p b) j)) w.2
        (record {
          tie = tran (row (spot b w.0)) (left (place b j)) (right (place b j));
          is = of_net b (tran (row (spot b w.0)) (left (place b j)) (right (place b j))) le
              (gate_input j ins w.0 h (member_contains ins w.0 w.1));
          band = refl;
          row = refl;
          column = refl;
        })
    reader_tie b n j (Some (Latch ph None)) le h e = absurd (true≢false (sym e))
    reader_tie b n j (Some (Latch ph (Some d))) le h e =
        subst (λ k. HasTie b k (home (columns_of p b) j)) (same_from d.0 n e)
        (record {
          tie = tap R (right (place b j)) (row (spot b d));
          is = of_net b (tap R (right (place b j)) (row (spot b d))) le (latch_data j ph d h);
          band = refl;
          row = refl;
          column = refl;
        })

    -- ---- further columns

    control_more : (n c : ℕ) → Member (control_joints p n) c → HasTie 0 n c
    control_more n c k = elim (member_append (cast_columns (λ (c : Cast). c.control == n) 4 p.casts)
        (lift_columns_of (λ (l : Lift). l.control == n) (4 + length p.casts) p.lifts) c k) [
          | inl q ↦ (let w = cast_of_column (λ (c : Cast). c.control == n) 4 p.casts c q in
              subst (λ m. HasTie 0 m c) (same_from w.1.control n w.3)
              (in_column 0 w.1.control (4 + w.0) c w.4
              (record {
                tie = tap L (extra (cast_line w.0)) (row (place 0 w.1.control));
                is = of_cast w.0 w.1 w.2;
                band = refl;
                row = refl;
                column = refl;
              })))
          | inr q ↦ (let w = lift_of_column (λ (l : Lift). l.control == n) (4 + length p.casts) p.lifts c q in
              subst (λ m. HasTie 0 m c) (same_from w.1.control n w.3)
              (in_column 0 w.1.control (4 + length p.casts + w.0) c w.4
              (record {
                tie = tap L (extra (lift_line w.0)) (row (place 0 w.1.control));
                is = of_lift w.0 w.1 w.2;
                band = refl;
                row = refl;
                column = refl;
              })))
        ]

    -- a lifted net in each slice: on the lift's line in its own, and on a stub elsewhere
    lifted_tie : (i : ℕ) (l : Lift) (k : ℕ) → slice_get p.lifts i ≡ Some l → k < p.width
        → HasTie (suc k) l.start (lift_column p i)
    lifted_tie i l k h lt = elim (cases_eq (suc k) (suc l.slice)) [
      | inl e ↦ subst (λ b. HasTie b l.start (lift_column p i)) (sym e)
          (record {
            tie = tap L (extra (lift_line i)) (row (place (suc l.slice) l.start));
            is = of_lift_slice i l h;
            band = refl;
            row = refl;
            column = refl;
          })
      | inr e ↦ record {
        tie = tap R (extra (lift_stub i (suc k))) (row (place (suc k) l.start));
        is = of_lift_stub i l (suc k) h (omega arith, omega (arith, lt)) e;
        band = refl;
        row = refl;
        column = refl;
      }
    ]

    slice_more : (k n c : ℕ) → k < p.width → Member (slice_joints p n) c → HasTie (suc k) n c
    slice_more k n c lt q = elim (member_append (cast_columns (λ (c : Cast). c.slice == n) 4 p.casts)
        (lift_columns_of (λ (l : Lift). l.start == n) (4 + length p.casts) p.lifts
        ++ chain_starts (home (plain_slice p)) n p.chains) c q) [
          | inl r ↦ (let w = cast_of_column (λ (c : Cast). c.slice == n) 4 p.casts c r in
              subst (λ m. HasTie (suc k) m c) (same_from w.1.slice n w.3)
              (in_column (suc k) w.1.slice (4 + w.0) c w.4
              (record {
                tie = tap L (extra (cast_line w.0)) (row (place (suc k) w.1.slice));
                is = of_cast_slice w.0 w.1 (suc k) w.2 (omega arith, omega (arith, lt));
                band = refl;
                row = refl;
                column = refl;
              })))
          | inr r ↦ elim (member_append (lift_columns_of (λ (l : Lift). l.start == n) (4 + length p.casts) p.lifts)
              (chain_starts (home (plain_slice p)) n p.chains) c r) [
                | inl s ↦ (let w = lift_of_column (λ (l : Lift). l.start == n) (4 + length p.casts) p.lifts c s in
                    subst (λ m. HasTie (suc k) m c) (same_from w.1.start n w.3)
                    (in_column (suc k) w.1.start (4 + length p.casts + w.0) c w.4 (lifted_tie w.0 w.1 k w.2 lt)))
                | inr s ↦ (let w = chain_of_column (home (plain_slice p)) n p.chains c s in
                    subst (λ m. HasTie (suc k) m c) w.3
                    (in_column (suc k) w.1.start (home (plain_slice p) w.1.to) c w.4 (chain_tie w.0 w.1 k w.2 lt).1))
              ]
        ]

    -- column 1 of a segment that is led to the west edge
    abbrev AtWest : ℕ → ℕ → ℕ → Type 0
    AtWest b k c = Contains (led p b) k × (1 ≡ c)

    abbrev phases : List ℕ
    phases = of_phases (λ ph. length p.control + phase_number ph)

    led_pad : (b n : ℕ) → Member (west p b) n → Contains (led p b) n
    led_pad zero n k = member_contains (led p 0) n (append_left p.west_signals phases n k)
    led_pad (suc b) n k = member_contains p.west_words n k

    led_phase : (ph : Phase) → Contains (led p 0) (length p.control + phase_number ph)
    led_phase ph = member_contains (led p 0) (length p.control + phase_number ph)
        (append_right p.west_signals phases (length p.control + phase_number ph) (among ph))
      where
        among : (ph : Phase) → Member phases (length p.control + phase_number ph)
        among A = inl refl
        among B = inr (inl refl)
        among C = inr (inr (inl refl))

    west_tie : (b n c : ℕ) → Member (west_column (is_west (west p b) n)) c → AtWest b n c
    west_tie b n c k =
        let w = west_of (is_west (west p b) n) c k in
        let u = any_found (λ m. m == n) (west p b) w.0 in (
          led_pad b n (contains_member (west p b) n
              (subst (Contains (west p b)) (same_from u.1 n u.3) (contains_from_get (west p b) u.0 u.1 u.2))),
          w.1,
        )

    more_tie : (b n c : ℕ) → b ≤ p.width → Member ((columns_of p b).more n) c → HasTie b n c ⊎ AtWest b n c
    more_tie zero n c le k =
        elim (member_append (control_joints p n) (west_column (is_west p.west_signals n)) c k)
        [ inl q ↦ inl (control_more n c q) | inr q ↦ inr (west_tie 0 n c q) ]
    more_tie (suc k) n c le q =
        elim (member_append (slice_joints p n) (west_column (is_west p.west_words n)) c q)
        [ inl r ↦ inl (slice_more k n c (omega (arith, le)) r) | inr r ↦ inr (west_tie (suc k) n c r) ]

    -- ---- all columns of a net, and of a phase

    net_tie : (b n c : ℕ) → b ≤ p.width → n < length (parts p b) → Member (marks (columns_of p b) (parts p b) n) c
        → HasTie b n c ⊎ AtWest b n c
    net_tie b n c le lt k =
        elim (member_append (cond ((columns_of p b).homed n) (home (columns_of p b) n ∷ []) [])
        (map (home (columns_of p b)) (numbers (reads n) (parts p b)) ++ (columns_of p b).more n) c k) [
          | inl q ↦ inl (own ((columns_of p b).homed n) refl q)
          | inr q ↦ elim (member_append (map (home (columns_of p b)) (numbers (reads n) (parts p b)))
              ((columns_of p b).more n) c q) [
                | inl r ↦ (let w = member_map (home (columns_of p b)) (numbers (reads n) (parts p b)) c r in
                    let u = member_filter (λ j. reads n (slice_get (parts p b) j)) (range_with_len 0 (length
                    (parts p b)))
                    w.0 w.1 in
                    inl (subst (HasTie b n) w.2 (reader_tie b n w.0 (slice_get (parts p b) w.0) le refl u.1)))
                | inr r ↦ more_tie b n c le r
              ]
        ]
      where
        own : (t : Bool) → (columns_of p b).homed n ≡ t → Member (cond t (home (columns_of p b) n ∷ []) []) c
            → HasTie b n c
        own true e (inl q) = subst (HasTie b n) q (own_tie b n (slice_get (parts p b) n) le refl lt e)
        own true e (inr q) = absurd q
        own false e q = absurd q

    beat_tie : (b : ℕ) (ph : Phase) (j : ℕ) (o : Option Part) → b ≤ p.width → slice_get (parts p b) j ≡ o
        → beats ph o ≡ true → HasTie b (length (parts p b) + phase_number ph) (home (columns_of p b) j)
    beat_tie b ph j None le h e = absurd (true≢false (sym e))
    beat_tie b ph j (Some Input) le h e = absurd (true≢false (sym e))
    beat_tie b ph j (Some (Gate ins)) le h e = absurd (true≢false (sym e))
    beat_tie b ph j (Some (Latch other None)) le h e = absurd (true≢false (sym e))
    beat_tie b ph j (Some (Latch other (Some d))) le h e =
        subst (λ q. HasTie b (length (parts p b) + phase_number q) (home (columns_of p b) j))
        (sym (one_phase ph other e))
        (record {
          tie = tran (beat b other) (left (place b j)) (right (place b j));
          is = of_net b (tran (beat b other) (left (place b j)) (right (place b j))) le (latch_phase j other d h);
          band = refl;
          row = refl;
          column = refl;
        })

    trunk_tie : (b : ℕ) (ph : Phase) → b ≤ p.width
        → HasTie b (length (parts p b) + phase_number ph) (1 + phase_number ph)
    trunk_tie b ph le = record {
      tie = tap L (trunk ph) (beat b ph);
      is = of_phase b ph le;
      band = refl;
      row = refl;
      column = refl;
    }

    first_phase : (b : ℕ) → (columns_of p b).first_phase ≡ 1
    first_phase zero = refl
    first_phase (suc b) = refl

    phase_west : (b : ℕ) (ph : Phase) (c : ℕ) → Member (columns_of p b).phase_more c
        → AtWest b (length (parts p b) + phase_number ph) c
    phase_west zero ph c (inl e) = (led_phase ph, e)
    phase_west zero ph c (inr k) = absurd k
    phase_west (suc b) ph c k = absurd k

    phase_tie : (b : ℕ) (ph : Phase) (c : ℕ) → b ≤ p.width → Member (phase_marks (columns_of p b) (parts p b) ph) c
        → HasTie b (length (parts p b) + phase_number ph) c ⊎ AtWest b (length (parts p b) + phase_number ph) c
    phase_tie b ph c le (inl e) = inl
        (in_column b (length (parts p b) + phase_number ph) (1 + phase_number ph) c
        (sym (ap (λ f. f + phase_number ph) (first_phase b)) ∙ e) (trunk_tie b ph le))
    phase_tie b ph c le (inr k) =
        elim (member_append (map (home (columns_of p b)) (numbers (beats ph) (parts p b))) (columns_of p b).phase_more c
        k) [
          | inl k ↦ (let w = member_map (home (columns_of p b)) (numbers (beats ph) (parts p b)) c k in
              let u = member_filter (λ j. beats ph (slice_get (parts p b) j)) (range_with_len 0 (length (parts p b)))
              w.0 w.1 in
              inl (subst (HasTie b (length (parts p b) + phase_number ph)) w.2
              (beat_tie b ph w.0 (slice_get (parts p b) w.0) le refl u.1)))
          | inr k ↦ inr (phase_west b ph c k)
        ]

    -- ---- some column of each net is tied

    record IsTied (b k : ℕ) (columns : List ℕ) : Type 0 where
      at : ℕ
      tied : HasTie b k at
      among : Member columns at

    abbrev IsTiedNet : ℕ → ℕ → Type 0
    IsTiedNet b n = IsTied b n (marks (columns_of p b) (parts p b) n)

    homed_tied : (b n : ℕ) → b ≤ p.width → n < length (parts p b) → (columns_of p b).homed n ≡ true → IsTiedNet b n
    homed_tied b n le lt e = record {
      at = home (columns_of p b) n;
      tied = own_tie b n (slice_get (parts p b) n) le refl lt e;
      among = own_mark (columns_of p b) (parts p b) n e;
    }

    read_tied : (b n : ℕ) → b ≤ p.width → any_below (λ j. reads n (slice_get (parts p b) j)) (length (parts p b)) ≡ true
        → IsTiedNet b n
    read_tied b n le e =
        let w = below_member (λ j. reads n (slice_get (parts p b) j)) (length (parts p b)) e in
        let q = reads_some n (slice_get (parts p b) w.0) w.2 in
        record {
          at = home (columns_of p b) w.0;
          tied = reader_tie b n w.0 (slice_get (parts p b) w.0) le refl w.2;
          among = reader_mark (columns_of p b) (parts p b) n w.0 q.0 q.1 (sym (ap (reads n) q.1) ∙ w.2);
        }

    control_tied : (n c : ℕ) → Member (control_joints p n) c → IsTiedNet 0 n
    control_tied n c k = record { at = c; tied = control_more n c k; among = control_joint p n c k }

    slice_tied : (b n c : ℕ) → IsSlice p b → Member (slice_joints p n) c → IsTiedNet b n
    slice_tied zero n c s k = absurd (let z = s.0 in omega (arith, z))
    slice_tied (suc b) n c s k =
        record { at = c; tied = slice_more b n c (let t = s.1 in omega (arith, t)) k; among = slice_joint p n c k }

    -- an input of the control that nothing reads, lifts or casts is a stub
    control_input : (n : ℕ) → n < length p.control → slice_get p.control n ≡ Some Input → IsTiedNet 0 n
    control_input n lt h =
        elim (cases_Bool (any_below (λ j. reads n (slice_get p.control j)) (length p.control))) [
          | inl e ↦ read_tied 0 n (omega arith) e
          | inr e ↦ elim (cases_Bool (list_any (λ (l : Lift). l.control == n) p.lifts)) [
            | inl t ↦ (let w = any_found (λ (l : Lift). l.control == n) p.lifts t in
                control_tied n (4 + length p.casts + w.0) (append_right (cast_columns (λ c. c.control == n) 4 p.casts)
                (lift_columns_of (λ l. l.control == n) (4 + length p.casts) p.lifts) (4 + length p.casts + w.0)
                (lift_has (λ l. l.control == n) (4 + length p.casts) p.lifts w.0 w.1 w.2 w.3)))
            | inr t ↦ elim (cases_Bool (list_any (λ (c : Cast). c.control == n) p.casts)) [
              | inl s ↦ (let w = any_found (λ (c : Cast). c.control == n) p.casts s in
                  control_tied n (4 + w.0) (append_left (cast_columns (λ c. c.control == n) 4 p.casts)
                  (lift_columns_of (λ l. l.control == n) (4 + length p.casts) p.lifts) (4 + w.0)
                  (cast_has (λ c. c.control == n) 4 p.casts w.0 w.1 w.2 w.3)))
              | inr s ↦ homed_tied 0 n (omega arith) lt
                  (or_right (part_is (λ q. not (is_input q)) (slice_get p.control n)) (control_stub p n)
                  (and_from (part_is is_input (slice_get p.control n)) (is_unread p.control n && (not
                  (list_any (λ (l : Lift). l.control == n) p.lifts) && not
                  (list_any (λ (c : Cast). c.control == n) p.casts))) (ap (part_is is_input) h)
                  (and_from (is_unread p.control n) (not (list_any (λ (l : Lift). l.control == n) p.lifts) && not
                  (list_any (λ (c : Cast). c.control == n) p.casts)) (ap not e)
                  (and_from (not (list_any (λ (l : Lift). l.control == n) p.lifts))
                  (not (list_any (λ (c : Cast). c.control == n) p.casts)) (ap not t) (ap not s)))))
            ]
          ]
        ]

    slice_homed_tied : (b n : ℕ) → IsSlice p b → n < length p.slice → slice_homed p n ≡ true → IsTiedNet b n
    slice_homed_tied zero n s lt e = absurd (let z = s.0 in omega (arith, z))
    slice_homed_tied (suc b) n s lt e = homed_tied (suc b) n s.1 lt e

    slice_read_tied : (b n : ℕ) → IsSlice p b → any_below (λ j. reads n (slice_get p.slice j)) (length p.slice) ≡ true
        → IsTiedNet b n
    slice_read_tied zero n s e = absurd (let z = s.0 in omega (arith, z))
    slice_read_tied (suc b) n s e = read_tied (suc b) n s.1 e

    -- a pad's bit that nothing reads, lifts or carries on is a stub
    word_tied : (b n : ℕ) → IsSlice p b → n < length p.slice → Contains p.words n → IsTiedNet b n
    word_tied b n s lt k =
        elim (cases_Bool (any_below (λ j. reads n (slice_get p.slice j)) (length p.slice))) [
          | inl e ↦ slice_read_tied b n s e
          | inr e ↦ elim (cases_Bool (list_any (λ (l : Lift). l.start == n) p.lifts)) [
            | inl t ↦ (let w = any_found (λ (l : Lift). l.start == n) p.lifts t in
                slice_tied b n (4 + length p.casts + w.0) s (append_right (cast_columns (λ c. c.slice == n) 4 p.casts)
                (lift_columns_of (λ l. l.start == n) (4 + length p.casts) p.lifts
                ++ chain_starts (home (plain_slice p)) n p.chains) (4 + length p.casts + w.0)
                (append_left (lift_columns_of (λ l. l.start == n) (4 + length p.casts) p.lifts)
                (chain_starts (home (plain_slice p)) n p.chains) (4 + length p.casts + w.0)
                (lift_has (λ l. l.start == n) (4 + length p.casts) p.lifts w.0 w.1 w.2 w.3))))
            | inr t ↦ elim (cases_Bool (list_any (λ (c : Carry). c.start == n) p.chains)) [
              | inl q ↦ (let w = any_found (λ (c : Carry). c.start == n) p.chains q in
                  slice_tied b n (home (plain_slice p) (w.1).to) s
                  (append_right (cast_columns (λ c. c.slice == n) 4 p.casts)
                  (lift_columns_of (λ l. l.start == n) (4 + length p.casts) p.lifts
                  ++ chain_starts (home (plain_slice p)) n p.chains) (home (plain_slice p) (w.1).to)
                  (append_right (lift_columns_of (λ l. l.start == n) (4 + length p.casts) p.lifts)
                  (chain_starts (home (plain_slice p)) n p.chains) (home (plain_slice p) (w.1).to)
                  (start_has (home (plain_slice p)) p.chains w.0 w.1 n w.2 (same_from (w.1).start n w.3)))))
              | inr q ↦ slice_homed_tied b n s lt (homed_stub p ready n
                  (and_from (list_any (λ w. w == n) p.words) (is_unread p.slice n && (not
                  (list_any (λ (l : Lift). l.start == n) p.lifts) && not
                  (list_any (λ (c : Carry). c.start == n) p.chains)))
                  (any_of (λ w. w == n) p.words n (contains_member p.words n k) (same_to n n refl))
                  (and_from (is_unread p.slice n) (not (list_any (λ (l : Lift). l.start == n) p.lifts) && not
                  (list_any (λ (c : Carry). c.start == n) p.chains)) (ap not e)
                  (and_from (not (list_any (λ (l : Lift). l.start == n) p.lifts))
                  (not (list_any (λ (c : Carry). c.start == n) p.chains)) (ap not t) (ap not q)))))
            ]
          ]
        ]

    -- by the way in which a net of a slice gets its value
    element_tied : (s : Spot) (e : Element) → IsElement p s e → IsSlice p s.band → s.net < length p.slice
        → IsTiedNet s.band s.net
    element_tied t e (gate zero n ins le h) s lt = absurd (let z = s.0 in omega (arith, z))
    element_tied t e (gate (suc b) n ins le h) s lt =
        slice_homed_tied (suc b) n s lt (homed_part p ready n (Gate ins) refl h)
    element_tied t e (store zero n ph d le h) s lt = absurd (let z = s.0 in omega (arith, z))
    element_tied t e (store (suc b) n ph d le h) s lt =
        slice_homed_tied (suc b) n s lt (homed_part p ready n (Latch ph (Some d)) refl h)
    element_tied t e (pad zero n le h c) s lt = absurd (let z = s.0 in omega (arith, z))
    element_tied t e (pad (suc b) n le h c) s lt = word_tied (suc b) n s lt c
    element_tied t e (cast i c b h q) s lt =
        slice_tied b c.slice (4 + i) s (append_left (cast_columns (λ a. a.slice == c.slice) 4 p.casts)
        (lift_columns_of (λ l. l.start == c.slice) (4 + length p.casts) p.lifts
        ++ chain_starts (home (plain_slice p)) c.slice p.chains) (4 + i)
        (cast_has (λ a. a.slice == c.slice) 4 p.casts i c h (same_to c.slice c.slice refl)))
    element_tied t e (lift i l h) s lt = absurd (let z = s.0 in omega (arith, z))
    element_tied t e (next i c a b h f) s lt = slice_homed_tied b c.to s lt (homed_end p i c h)
    element_tied t e (open_end i c h) s lt = slice_homed_tied (open_band p c) c.to s lt (homed_end p i c h)
    element_tied t e (one i g b h r is) s lt = slice_homed_tied (suc b) g.net s lt (homed_bit p i g h)
    element_tied t e (zero_bit i g b h r is) s lt = slice_homed_tied (suc b) g.net s lt (homed_bit p i g h)

    input_tied : (b n : ℕ) → b ≤ p.width → n < length (parts p b) → slice_get (parts p b) n ≡ Some Input
        → IsTiedNet b n
    input_tied zero n le lt h = control_input n lt h
    input_tied (suc b) n le lt h =
        let w = (ready.path).inputs (suc b) n le h in
        element_tied (place (suc b) n) w.0 w.1 (omega arith, le) lt

    homed_active : (b n : ℕ) (q : Part) → is_input q ≡ false → slice_get (parts p b) n ≡ Some q
        → (columns_of p b).homed n ≡ true
    homed_active zero n q e h = or_left (part_is (λ z. not (is_input z)) (slice_get p.control n)) (control_stub p n)
        (ap (part_is (λ z. not (is_input z))) h ∙ ap not e)
    homed_active (suc b) n q e h = homed_part p ready n q e h

    net_tied : (b n : ℕ) → b ≤ p.width → n < length (parts p b) → IsTiedNet b n
    net_tied b n le lt = by_part (slice_get (parts p b) n) refl
      where
        by_part : (o : Option Part) → slice_get (parts p b) n ≡ o → IsTiedNet b n
        by_part None h =
            elim (slice_get_cases (parts p b) n).1
            [ inl w ↦ absurd (none-some w.0 (sym h ∙ w.2)) | inr w ↦ absurd (let v = w.0 in omega (arith, v, lt)) ]
        by_part (Some Input) h = input_tied b n le lt h
        by_part (Some (Gate ins)) h = homed_tied b n le lt (homed_active b n (Gate ins) refl h)
        by_part (Some (Latch ph d)) h = homed_tied b n le lt (homed_active b n (Latch ph d) refl h)

    phase_tied : (b : ℕ) (ph : Phase) → b ≤ p.width
        → IsTied b (length (parts p b) + phase_number ph) (phase_marks (columns_of p b) (parts p b) ph)
    phase_tied b ph le = record {
      at = 1 + phase_number ph;
      tied = trunk_tie b ph le;
      among = inl (ap (λ f. f + phase_number ph) (first_phase b));
    }

    -- ---- segments

    abbrev all : Plan
    all = path_laid p (columns_wanted p) control slices

    abbrev cols : ℕ → ℕ → List ℕ
    cols = stand.cols p ready control slices control_tracks slice_tracks

    tracks_of : (b : ℕ) → b ≤ p.width → AreTracks (columns_of p b) (parts p b) (cols b) (rows b)
        (stand.counts p ready control slices control_tracks slice_tracks b)
    tracks_of b le = stand.tracks_at p ready control slices control_tracks slice_tracks b le

    segment_tied : (b k : ℕ) → b ≤ p.width → k < length (parts p b) + 3 → IsTied b k (cols b k)
    segment_tied b k le lt = elim (cases_lt k (length (parts p b))) [
      | inl h ↦ subst (IsTied b k) (sym ((tracks_of b le).nets k h)) (net_tied b k le h)
      | inr h ↦ (let w = phase_of k (length (parts p b)) h lt in
          subst (λ j. IsTied b j (cols b j)) w.1
          (subst (IsTied b (length (parts p b) + phase_number w.0)) (sym ((tracks_of b le).phases w.0))
          (phase_tied b w.0 le)))
    ]

    segment_tie : (b k c : ℕ) → b ≤ p.width → k < length (parts p b) + 3 → Member (cols b k) c
        → HasTie b k c ⊎ AtWest b k c
    segment_tie b k c le lt n = elim (cases_lt k (length (parts p b))) [
      | inl h ↦ net_tie b k c le h (subst (λ l. Member l c) ((tracks_of b le).nets k h) n)
      | inr h ↦ (let w = phase_of k (length (parts p b)) h lt in
          subst (λ j. HasTie b j c ⊎ AtWest b j c) w.1
          (phase_tie b w.0 c le
          (subst (λ l. Member l c) ((tracks_of b le).phases w.0) (subst (λ j. Member (cols b j) c) (sym w.1) n))))
    ]

    marked : (b k c : ℕ) → HasTie b k c → IsMarkedAt all (band_segment b (cols b) (rows b) k) c
    marked b k c t =
        record {
          the_mark = m t.tie;
          among = member_contains all.marks (m t.tie)
              (has_tie p ready control slices control_tracks slice_tracks t.tie t.is);
          band = t.band;
          row = t.row;
          column = t.column;
        }

    -- the last column is tied: no other is led to the west edge, unless the tied ones stand there too
    last_tie : (b k : ℕ) → b ≤ p.width → k < length (parts p b) + 3 → 1 ≤ least (cols b k)
        → HasTie b k (greatest (cols b k))
    last_tie b k le lt some =
        elim (segment_tie b k (greatest (cols b k)) le lt (ends (cols b k) some).1) [
          | inl t ↦ t
          | inr w ↦ (let t = segment_tied b k le lt in
              let low = least_below (cols b k) t.at t.among in
              let high = greatest_above (cols b k) t.at t.among in
              let e = w.1 in
              in_column b k t.at (greatest (cols b k)) (omega (arith, low, high, e, some)) t.tied)
        ]

    rows_same : (b k : ℕ) → rows b k ≡ rows_in control slices b k
    rows_same zero k = refl
    rows_same (suc b) k = refl

    abbrev Ends : Segment → Type 0
    Ends s = (IsMarkedAt all s s.first ⊎ IsWest p control slices s) × IsMarkedAt all s s.last

    ends_marked : (b k : ℕ) (s : Segment) → b ≤ p.width → k < length (parts p b) + 3
        → band_segment b (cols b) (rows b) k ≡ s → 1 ≤ s.first → Ends s
    ends_marked b k s le lt e some =
        let low = subst (λ (s : Segment). 1 ≤ s.first) (sym e) some in
        subst Ends e (
          elim (segment_tie b k (least (cols b k)) le lt (ends (cols b k) low).0) [
            | inl t ↦ inl (marked b k (least (cols b k)) t)
            | inr w ↦ inr (record { first = sym w.1; number = k; joined = w.0; row = ap suc (rows_same b k) })
          ],
          marked b k (greatest (cols b k)) (last_tie b k le lt low),
        )

    abbrev low : List Segment
    low = band_segments 0 (control_cols p) (slice_index control.row) p.control

    abbrev high : List Segment
    high = slice_segments p (slice_index slices.row)

    of_slice : (b : ℕ) (s : Segment) → IsSlice p b
        → Member (band_segments b (slice_cols p) (slice_index slices.row) p.slice) s → 1 ≤ s.first → Ends s
    of_slice zero s i k some = absurd (let z = i.0 in omega (arith, z))
    of_slice (suc b) s i k some =
        let w = member_map (band_segment (suc b) (slice_cols p) (slice_index slices.row))
        (range_with_len 0 (length p.slice + 3)) s k in
        let r = (range_members 0 (length p.slice + 3) w.0 w.1).1 in
        ends_marked (suc b) w.0 s i.1 (omega (arith, r)) w.2 some

    pub each_marked : (s : Segment) → Member all.segments s → 1 ≤ s.first → Ends s
    each_marked s k some = elim (member_append (low ++ high) [] s k) [
      | inr q ↦ absurd q
      | inl q ↦ elim (member_append low high s q) [
        | inl r ↦ (let w = member_map (band_segment 0 (control_cols p) (slice_index control.row))
            (range_with_len 0 (length p.control + 3)) s r in
            let l = (range_members 0 (length p.control + 3) w.0 w.1).1 in
            ends_marked 0 w.0 s (omega arith) (omega (arith, l)) w.2 some)
        | inr r ↦ (let w = member_flat (λ b. band_segments b (slice_cols p) (slice_index slices.row) p.slice)
            (slices_of p) s r in of_slice w.0 s (slice_in p (λ b n. false) w.0 w.1) w.2 some)
      ]
    ]

pub ends_are_marked : EndsAreMarked
ends_are_marked p control_net slice_net f sliced lawful s c =
    subst (λ (f : Plan). Member f.segments s → 1 ≤ s.first
    → (IsMarkedAt f s s.first ⊎ IsWest (path_of p) sliced.control sliced.slices s) × IsMarkedAt f s s.last)
    (sym sliced.is)
    (each_marked (path_of p) (placeable p control_net slice_net) sliced.control sliced.slices sliced.control_tracks
    sliced.slice_tracks s) (contains_member f.segments s c)
    (all_at (IsSegment f) f.segments s lawful.segments (contains_member f.segments s c)).first
