-- The marks of a path's fabric are those of the path's ties.
use Rattle.std.proofs.Common.{◌≡◌, inl, inr, ℕ, zero, suc, ◌<◌, ◌≤◌, ◌+◌, Option, Some, None, Bool, true, false}
use Rattle.std.proofs.Common.{List, ◌∷◌, ◌++◌, length, map, refl, sym, ◌∙◌, ap, subst, arith, not}
use Rattle.std.specs.Prelude.{Contains, slice_get, flat_map, slice_index, max, ◌==◌}
use Rattle.std.specs.List.{range_with_len}
use Rattle.mp_base.proofs.Members.{Member, member_contains, contains_member, member_map, map_member, member_filter}
use Rattle.mp_base.proofs.Members.{filter_member, range_has, member_append, append_left, append_right, member_flat}
use Rattle.mp_base.proofs.Members.{flat_member}
use Rattle.tile_cells.specs.declared.tile.Tile.TheVariants.{TapL, TapR, PullUp}
use Rattle.fabric.specs.declared.thing.Side.TheVariants.{L, R}
use Rattle.fabric.specs.declared.thing.Mark.{Mark}
use Rattle.nor_net.specs.declared.net.Phase.{Phase}
use Rattle.nor_net.specs.declared.net.Phase.TheVariants.{A, B, C}
use Rattle.track_assign.specs.declared.packing.Tracks.{Tracks}
use Rattle.array_form.specs.Band.{band_ties}
use Rattle.array_form.specs.Homes.{home, phase_number}
use Rattle.array_form.specs.Laying.{band_marks}
use Rattle.array_form.specs.Lists.{IsMadeOf, mark, mark_of, tap_tile}
use Rattle.array_form.specs.Named.{Tie, tap, pull}
use Rattle.array_form.specs.Wires.{Wire, row, beat, left, right, trunk, extra, to_ground, place}
use Rattle.array_form.proofs.Bands.{marks_named}
use Rattle.array_form.proofs.Listing.{listed_tie, tie_listed}
use Rattle.slice_form.specs.Path.{Path, Carry, Cast, Lift, Programmed, IsSlice, parts}
use Rattle.slice_form.specs.PathLists.{slices_of, others_of, path_rows, path_columns, path_ties}
use Rattle.slice_form.specs.PathWires.{Across, cast_line, lift_line, lift_stub, chain_line, side_of, below, above}
use Rattle.slice_form.specs.PathWires.{open_gap, PathTie, of_net, of_phase, of_cast, of_cast_slice, of_lift}
use Rattle.slice_form.specs.PathWires.{of_lift_slice, of_lift_stub, of_below, of_above, of_open, of_bit_ground}
use Rattle.slice_form.specs.PathWires.{of_bit_pull, of_one, of_zero}
use Rattle.slice_form.specs.Slices.{across_of, cast_column, chain_column, columns_wanted, control_columns, ground_band}
use Rattle.slice_form.specs.Slices.{lift_column, plain_slice, slice_columns}
use Rattle.slice_form.proofs.Lists.{path_listed, path_in_list, in_slices, slice_in, same_not, not_same}
use Rattle.slice_laying.specs.Added.{slice_marks, of_phases, trunk_taps, cast_taps, lift_taps, bit_tap}
use Rattle.slice_laying.specs.Added.{bit_marks, link_taps, chain_taps, joint_marks}
use Rattle.slice_laying.specs.Fitting.{AreSliceTracks}
use Rattle.slice_laying.specs.Paths.{IsPlaceable}
use Rattle.slice_laying.specs.Taps.{control_cast_taps, control_lift_taps, control_taps}
use Rattle.slice_laying.proofs.JointApart.{in_below}
use Rattle.slice_laying.proofs.Standing.{numbered}
use Rattle.slice_chip.specs.Sliced.{AreControlTracks, path_laid}
use Rattle.slice_chip.proofs.MadeOf as made

module _ (p : Path) (ready : IsPlaceable p) (control slices : Tracks) (control_tracks : AreControlTracks p control)
    (slice_tracks : AreSliceTracks p slices)
  where
    abbrev crow : ℕ → ℕ
    crow = slice_index control.row

    abbrev srow : ℕ → ℕ
    srow = slice_index slices.row

    abbrev top : ℕ
    top = suc slices.rows

    abbrev stub : ℕ → ℕ → Bool
    stub = made.stub p ready control slices control_tracks slice_tracks

    abbrev m : Tie (Wire Across) → Mark
    m = mark_of Across (made.y p ready control slices control_tracks slice_tracks)

    abbrev all : List Mark
    all = (path_laid p (columns_wanted p) control slices).marks

    -- a mark of some tie
    record IsTied (k : Mark) : Type 0 where
      tie : Tie (Wire Across)
      is : PathTie p stub tie
      here : m tie ≡ k

    tied : (t : Tie (Wire Across)) (k : Mark) → PathTie p stub t → m t ≡ k → IsTied k
    tied t k is here = record { tie = t; is = is; here = here }

    -- ---- each mark is of a tie

    of_control : (k : Mark) → Member (band_marks 0 (suc control.rows) crow (control_columns p) p.control) k → IsTied k
    of_control k h =
        let e = marks_named Across (made.bands p ready control slices control_tracks slice_tracks) (across_of p)
        ground_band 0 in
        let w = member_map m (band_ties Across 0 (stub 0) p.control) k (subst (λ l. Member l k) e h) in
        tied w.0 k (of_net 0 w.0 (omega arith) (listed_tie Across 0 (stub 0) p.control w.0 w.1)) w.2

    of_slice : (b : ℕ) (k : Mark) → IsSlice p b → Member (band_marks b top srow (slice_columns p) p.slice) k → IsTied k
    of_slice zero k s h = absurd (let z = s.0 in omega (arith, z))
    of_slice (suc b) k s h =
        let e = marks_named Across (made.bands p ready control slices control_tracks slice_tracks) (across_of p)
        ground_band (suc b) in
        let w = member_map m (band_ties Across (suc b) (stub (suc b)) p.slice) k (subst (λ l. Member l k) e h) in
        tied w.0 k (of_net (suc b) w.0 s.1 (listed_tie Across (suc b) (stub (suc b)) p.slice w.0 w.1)) w.2

    of_trunks : (b : ℕ) (k : Mark) → IsSlice p b → Member (trunk_taps p srow b) k → IsTied k
    of_trunks zero k s h = absurd (let z = s.0 in omega (arith, z))
    of_trunks (suc b) k s (inl e) = tied (tap L (trunk A) (beat (suc b) A)) k (of_phase (suc b) A s.1) e
    of_trunks (suc b) k s (inr (inl e)) = tied (tap L (trunk B) (beat (suc b) B)) k (of_phase (suc b) B s.1) e
    of_trunks (suc b) k s (inr (inr (inl e))) = tied (tap L (trunk C) (beat (suc b) C)) k (of_phase (suc b) C s.1) e
    of_trunks (suc b) k s (inr (inr (inr h))) = absurd h

    of_cast_at : (i : ℕ) (c : Cast) (b : ℕ) (k : Mark) → slice_get p.casts i ≡ Some c → IsSlice p b
        → mark TapL b (suc (srow c.slice)) (cast_column i) ≡ k → IsTied k
    of_cast_at i c zero k h s e = absurd (let z = s.0 in omega (arith, z))
    of_cast_at i c (suc b) k h s e =
        tied (tap L (extra (cast_line i)) (row (place (suc b) c.slice))) k (of_cast_slice i c (suc b) h s) e

    of_casts : (i : ℕ) (q : Option Cast) (k : Mark) → slice_get p.casts i ≡ q → Member (cast_taps p srow i q) k
        → IsTied k
    of_casts i None k h n = absurd n
    of_casts i (Some c) k h n =
        let w = member_map (λ b. mark TapL b (suc (srow c.slice)) (cast_column i)) (slices_of p) k n in
        of_cast_at i c w.0 k h (slice_in p stub w.0 w.1) w.2

    of_stub_at : (i : ℕ) (l : Lift) (b : ℕ) (k : Mark) → slice_get p.lifts i ≡ Some l → IsSlice p b
        → not (b == suc l.slice) ≡ true → mark TapR b (suc (srow l.start)) (lift_column p i) ≡ k → IsTied k
    of_stub_at i l zero k h s d e = absurd (let z = s.0 in omega (arith, z))
    of_stub_at i l (suc b) k h s d e =
        tied (tap R (extra (lift_stub i (suc b))) (row (place (suc b) l.start))) k
        (of_lift_stub i l (suc b) h s (not_same p stub (suc b) (suc l.slice) d)) e

    of_lifts : (i : ℕ) (q : Option Lift) (k : Mark) → slice_get p.lifts i ≡ q → Member (lift_taps p srow i q) k
        → IsTied k
    of_lifts i None k h n = absurd n
    of_lifts i (Some l) k h (inl e) =
        tied (tap L (extra (lift_line i)) (row (place (suc l.slice) l.start))) k (of_lift_slice i l h) e
    of_lifts i (Some l) k h (inr n) =
        let w = member_map (λ b. mark TapR b (suc (srow l.start)) (lift_column p i)) (others_of p l) k n in
        let u = member_filter (λ b. not (b == suc l.slice)) (slices_of p) w.0 w.1 in
        of_stub_at i l w.0 k h (slice_in p stub w.0 u.0) u.1 w.2

    abbrev of_bit : Programmed → ℕ → Option Bool → List Mark
    of_bit g j o =
        mark TapR (suc j) 0 (home (plain_slice p) g.net) ∷ mark PullUp (suc j) top
        (home (plain_slice p) g.net) ∷ bit_tap srow (suc j) g.net (home (plain_slice p) g.net) o

    of_bit_tap : (i : ℕ) (g : Programmed) (j : ℕ) (o : Option Bool) (k : Mark) → slice_get p.programs i ≡ Some g
        → j < p.width → slice_get g.bits j ≡ o → Member (of_bit g j o) k → IsTied k
    of_bit_tap i g j o k h lt b (inl e) =
        tied (tap R (right (place (suc j) g.net)) to_ground) k (of_bit_ground i g j h (omega (arith, lt))) e
    of_bit_tap i g j o k h lt b (inr (inl e)) =
        tied (pull (left (place (suc j) g.net))) k (of_bit_pull i g j h (omega (arith, lt))) e
    of_bit_tap i g j None k h lt b (inr (inr n)) = absurd n
    of_bit_tap i g j (Some true) k h lt b (inr (inr (inl e))) =
        tied (tap L (left (place (suc j) g.net)) (row (place (suc j) g.net))) k
        (of_one i g j h (omega (arith, lt)) b) e
    of_bit_tap i g j (Some true) k h lt b (inr (inr (inr n))) = absurd n
    of_bit_tap i g j (Some false) k h lt b (inr (inr (inl e))) =
        tied (tap R (right (place (suc j) g.net)) (row (place (suc j) g.net))) k
        (of_zero i g j h (omega (arith, lt)) b) e
    of_bit_tap i g j (Some false) k h lt b (inr (inr (inr n))) = absurd n

    of_bits : (i : ℕ) (q : Option Programmed) (k : Mark) → slice_get p.programs i ≡ q
        → Member (bit_marks p top srow q) k → IsTied k
    of_bits i None k h n = absurd n
    of_bits i (Some g) k h n =
        let w = member_flat (λ j. of_bit g j (slice_get g.bits j)) (range_with_len 0 p.width) k n in
        of_bit_tap i g w.0 (slice_get g.bits w.0) k h (in_below p w.0 w.1) refl w.2

    -- the column of a chain is that of its end
    chain_same : (i : ℕ) (c : Carry) → slice_get p.chains i ≡ Some c
        → chain_column p (slice_get p.chains i) ≡ home (plain_slice p) c.to
    chain_same i c h = ap (chain_column p) h

    of_links : (i : ℕ) (c : Carry) (j : ℕ) (k : Mark) → slice_get p.chains i ≡ Some c → j < p.width
        → Member (link_taps p srow c j) k → IsTied k
    of_links i c j k h lt (inl e) =
        tied (tap (side_of j) (extra (chain_line i j)) (row (place (suc j) (below c)))) k (of_below i c j h lt)
        (ap (mark (tap_tile (side_of j)) (suc j) (suc (srow (below c)))) (chain_same i c h) ∙ e)
    of_links i c j k h lt (inr (inl e)) =
        tied (tap (side_of (suc j)) (extra (chain_line i (suc j))) (row (place (suc j) (above c)))) k
        (of_above i c j h (omega (arith, lt)))
        (ap (mark (tap_tile (side_of (suc j))) (suc j) (suc (srow (above c)))) (chain_same i c h) ∙ e)
    of_links i c j k h lt (inr (inr n)) = absurd n

    of_chains : (i : ℕ) (q : Option Carry) (k : Mark) → slice_get p.chains i ≡ q → Member (chain_taps p srow q) k
        → IsTied k
    of_chains i None k h n = absurd n
    of_chains i (Some c) k h (inl e) =
        tied (tap (side_of (open_gap p c)) (extra (chain_line i (open_gap p c))) to_ground) k (of_open i c h)
        (ap (mark (tap_tile (side_of (open_gap p c))) (max 1 (open_gap p c)) 0) (chain_same i c h) ∙ e)
    of_chains i (Some c) k h (inr n) =
        let w = member_flat (link_taps p srow c) (range_with_len 0 p.width) k n in
        of_links i c w.0 k h (in_below p w.0 w.1) w.2

    abbrev trunks : List Mark
    trunks = flat_map (trunk_taps p srow) (slices_of p)

    abbrev casts : List Mark
    casts = flat_map (λ i. cast_taps p srow i (slice_get p.casts i)) (range_with_len 0 (length p.casts))

    abbrev lifts : List Mark
    lifts = flat_map (λ i. lift_taps p srow i (slice_get p.lifts i)) (range_with_len 0 (length p.lifts))

    abbrev bits : List Mark
    bits = flat_map (λ i. bit_marks p top srow (slice_get p.programs i)) (range_with_len 0 (length p.programs))

    abbrev chains : List Mark
    chains = flat_map (λ i. chain_taps p srow (slice_get p.chains i)) (range_with_len 0 (length p.chains))

    of_joints : (k : Mark) → Member (joint_marks p top srow) k → IsTied k
    of_joints k h = elim (member_append trunks (casts ++ (lifts ++ (bits ++ chains))) k h) [
      | inl q ↦ (let w = member_flat (trunk_taps p srow) (slices_of p) k q in
          of_trunks w.0 k (slice_in p stub w.0 w.1) w.2)
      | inr q ↦ elim (member_append casts (lifts ++ (bits ++ chains)) k q) [
        | inl s ↦ (let w = member_flat (λ i. cast_taps p srow i (slice_get p.casts i))
            (range_with_len 0 (length p.casts)) k s in of_casts w.0 (slice_get p.casts w.0) k refl w.2)
        | inr s ↦ elim (member_append lifts (bits ++ chains) k s) [
          | inl t ↦ (let w = member_flat (λ i. lift_taps p srow i (slice_get p.lifts i))
              (range_with_len 0 (length p.lifts)) k t in of_lifts w.0 (slice_get p.lifts w.0) k refl w.2)
          | inr t ↦ elim (member_append bits chains k t) [
            | inl u ↦ (let w = member_flat (λ i. bit_marks p top srow (slice_get p.programs i))
                (range_with_len 0 (length p.programs)) k u in of_bits w.0 (slice_get p.programs w.0) k refl w.2)
            | inr u ↦ (let w = member_flat (λ i. chain_taps p srow (slice_get p.chains i))
                (range_with_len 0 (length p.chains)) k u in of_chains w.0 (slice_get p.chains w.0) k refl w.2)
          ]
        ]
      ]
    ]

    abbrev control_phases : List Mark
    control_phases =
        of_phases (λ ph. mark TapL 0 (suc (crow (length p.control + phase_number ph))) (1 + phase_number ph))

    abbrev control_casts : List Mark
    control_casts = flat_map (λ i. control_cast_taps crow i (slice_get p.casts i)) (range_with_len 0 (length p.casts))

    abbrev control_lifts : List Mark
    control_lifts =
        flat_map (λ i. control_lift_taps p crow i (slice_get p.lifts i)) (range_with_len 0 (length p.lifts))

    of_control_phases : (k : Mark) → Member control_phases k → IsTied k
    of_control_phases k (inl e) = tied (tap L (trunk A) (beat 0 A)) k (of_phase 0 A (omega arith)) e
    of_control_phases k (inr (inl e)) = tied (tap L (trunk B) (beat 0 B)) k (of_phase 0 B (omega arith)) e
    of_control_phases k (inr (inr (inl e))) = tied (tap L (trunk C) (beat 0 C)) k (of_phase 0 C (omega arith)) e
    of_control_phases k (inr (inr (inr h))) = absurd h

    of_control_cast : (i : ℕ) (q : Option Cast) (k : Mark) → slice_get p.casts i ≡ q
        → Member (control_cast_taps crow i q) k → IsTied k
    of_control_cast i None k h n = absurd n
    of_control_cast i (Some c) k h (inl e) =
        tied (tap L (extra (cast_line i)) (row (place 0 c.control))) k (of_cast i c h) e
    of_control_cast i (Some c) k h (inr n) = absurd n

    of_control_lift : (i : ℕ) (q : Option Lift) (k : Mark) → slice_get p.lifts i ≡ q
        → Member (control_lift_taps p crow i q) k → IsTied k
    of_control_lift i None k h n = absurd n
    of_control_lift i (Some l) k h (inl e) =
        tied (tap L (extra (lift_line i)) (row (place 0 l.control))) k (of_lift i l h) e
    of_control_lift i (Some l) k h (inr n) = absurd n

    of_taps : (k : Mark) → Member (control_taps p crow) k → IsTied k
    of_taps k h = elim (member_append control_phases (control_casts ++ control_lifts) k h) [
      | inl q ↦ of_control_phases k q
      | inr q ↦ elim (member_append control_casts control_lifts k q) [
        | inl s ↦ (let w = member_flat (λ i. control_cast_taps crow i (slice_get p.casts i))
            (range_with_len 0 (length p.casts)) k s in of_control_cast w.0 (slice_get p.casts w.0) k refl w.2)
        | inr s ↦ (let w = member_flat (λ i. control_lift_taps p crow i (slice_get p.lifts i))
            (range_with_len 0 (length p.lifts)) k s in of_control_lift w.0 (slice_get p.lifts w.0) k refl w.2)
      ]
    ]

    abbrev of_band : List Mark
    of_band = band_marks 0 (suc control.rows) crow (control_columns p) p.control

    abbrev of_slices : List Mark
    of_slices = slice_marks p top srow

    abbrev of_all_joints : List Mark
    of_all_joints = joint_marks p top srow

    of_all : (k : Mark) → Member all k → IsTied k
    of_all k h = elim (member_append (of_band ++ (of_slices ++ of_all_joints)) (control_taps p crow) k h) [
      | inr q ↦ of_taps k q
      | inl q ↦ elim (member_append of_band (of_slices ++ of_all_joints) k q) [
        | inl s ↦ of_control k s
        | inr s ↦ elim (member_append of_slices of_all_joints k s) [
          | inr t ↦ of_joints k t
          | inl t ↦ (let w = member_flat (λ b. band_marks b top srow (slice_columns p) p.slice) (slices_of p) k t in
              of_slice w.0 k (slice_in p stub w.0 w.1) w.2)
        ]
      ]
    ]

    -- ---- each tie has its mark

    in_band : (k : Mark) → Member of_band k → Member all k
    in_band k h =
        append_left (of_band ++ (of_slices ++ of_all_joints)) (control_taps p crow) k
        (append_left of_band (of_slices ++ of_all_joints) k h)

    in_nets : (k : Mark) → Member of_slices k → Member all k
    in_nets k h =
        append_left (of_band ++ (of_slices ++ of_all_joints)) (control_taps p crow) k
        (append_right of_band (of_slices ++ of_all_joints) k (append_left of_slices of_all_joints k h))

    in_joints : (k : Mark) → Member of_all_joints k → Member all k
    in_joints k h =
        append_left (of_band ++ (of_slices ++ of_all_joints)) (control_taps p crow) k
        (append_right of_band (of_slices ++ of_all_joints) k (append_right of_slices of_all_joints k h))

    in_taps : (k : Mark) → Member (control_taps p crow) k → Member all k
    in_taps k h = append_right (of_band ++ (of_slices ++ of_all_joints)) (control_taps p crow) k h

    has_net : (b : ℕ) (t : Tie (Wire Across)) → b ≤ p.width → Member (band_ties Across b (stub b) (parts p b)) t
        → Member all (m t)
    has_net zero t le h =
        in_band (m t)
        (subst (λ l. Member l (m t)) (sym (marks_named Across
        (made.bands p ready control slices control_tracks slice_tracks) (across_of p) ground_band 0))
        (map_member m (band_ties Across 0 (stub 0) p.control) t h))
    has_net (suc b) t le h =
        in_nets (m t)
        (flat_member (λ b. band_marks b top srow (slice_columns p) p.slice) (slices_of p) (suc b) (m t)
        (in_slices p stub (suc b) (omega arith, le))
        (subst (λ l. Member l (m t)) (sym (marks_named Across
        (made.bands p ready control slices control_tracks slice_tracks) (across_of p) ground_band (suc b)))
        (map_member m (band_ties Across (suc b) (stub (suc b)) p.slice) t h)))

    has_phase : (b : ℕ) (ph : Phase) → b ≤ p.width → Member all (m (tap L (trunk ph) (beat b ph)))
    has_phase zero ph le =
        in_taps (m (tap L (trunk ph) (beat 0 ph)))
        (append_left control_phases (control_casts ++ control_lifts) (m (tap L (trunk ph) (beat 0 ph))) (one ph))
      where
        one : (ph : Phase) → Member control_phases (m (tap L (trunk ph) (beat 0 ph)))
        one A = inl refl
        one B = inr (inl refl)
        one C = inr (inr (inl refl))
    has_phase (suc b) ph le =
        in_joints (m (tap L (trunk ph) (beat (suc b) ph)))
        (append_left trunks (casts ++ (lifts ++ (bits ++ chains))) (m (tap L (trunk ph) (beat (suc b) ph)))
        (flat_member (trunk_taps p srow) (slices_of p) (suc b) (m (tap L (trunk ph) (beat (suc b) ph)))
        (in_slices p stub (suc b) (omega arith, le)) (one ph)))
      where
        one : (ph : Phase) → Member (trunk_taps p srow (suc b)) (m (tap L (trunk ph) (beat (suc b) ph)))
        one A = inl refl
        one B = inr (inl refl)
        one C = inr (inr (inl refl))

    behind_trunks : (k : Mark) → Member (casts ++ (lifts ++ (bits ++ chains))) k → Member all k
    behind_trunks k h = in_joints k (append_right trunks (casts ++ (lifts ++ (bits ++ chains))) k h)

    behind_casts : (k : Mark) → Member (lifts ++ (bits ++ chains)) k → Member all k
    behind_casts k h = behind_trunks k (append_right casts (lifts ++ (bits ++ chains)) k h)

    behind_lifts : (k : Mark) → Member (bits ++ chains) k → Member all k
    behind_lifts k h = behind_casts k (append_right lifts (bits ++ chains) k h)

    has_slice_cast : (i : ℕ) (c : Cast) (b : ℕ) → slice_get p.casts i ≡ Some c → IsSlice p b
        → Member all (m (tap L (extra (cast_line i)) (row (place b c.slice))))
    has_slice_cast i c zero h s = absurd (let z = s.0 in omega (arith, z))
    has_slice_cast i c (suc b) h s =
        let k = m (tap L (extra (cast_line i)) (row (place (suc b) c.slice))) in
        behind_trunks k
        (append_left casts (lifts ++ (bits ++ chains)) k
        (flat_member (λ i. cast_taps p srow i (slice_get p.casts i)) (range_with_len 0 (length p.casts)) i k
        (numbered p.casts i c h)
        (subst (λ q. Member (cast_taps p srow i q) k) (sym h)
        (map_member (λ b. mark TapL b (suc (srow c.slice)) (cast_column i)) (slices_of p) (suc b)
        (in_slices p stub (suc b) s)))))

    has_cast : (i : ℕ) (c : Cast) → slice_get p.casts i ≡ Some c
        → Member all (m (tap L (extra (cast_line i)) (row (place 0 c.control))))
    has_cast i c h =
        let k = m (tap L (extra (cast_line i)) (row (place 0 c.control))) in
        in_taps k
        (append_right control_phases (control_casts ++ control_lifts) k
        (append_left control_casts control_lifts k
        (flat_member (λ i. control_cast_taps crow i (slice_get p.casts i)) (range_with_len 0 (length p.casts)) i k
        (numbered p.casts i c h) (subst (λ q. Member (control_cast_taps crow i q) k) (sym h) (inl refl)))))

    has_lift : (i : ℕ) (l : Lift) → slice_get p.lifts i ≡ Some l
        → Member all (m (tap L (extra (lift_line i)) (row (place 0 l.control))))
    has_lift i l h =
        let k = m (tap L (extra (lift_line i)) (row (place 0 l.control))) in
        in_taps k
        (append_right control_phases (control_casts ++ control_lifts) k
        (append_right control_casts control_lifts k
        (flat_member (λ i. control_lift_taps p crow i (slice_get p.lifts i)) (range_with_len 0 (length p.lifts)) i k
        (numbered p.lifts i l h) (subst (λ q. Member (control_lift_taps p crow i q) k) (sym h) (inl refl)))))

    in_lift : (i : ℕ) (l : Lift) (k : Mark) → slice_get p.lifts i ≡ Some l → Member (lift_taps p srow i (Some l)) k
        → Member all k
    in_lift i l k h n =
        behind_casts k
        (append_left lifts (bits ++ chains) k
        (flat_member (λ i. lift_taps p srow i (slice_get p.lifts i)) (range_with_len 0 (length p.lifts)) i k
        (numbered p.lifts i l h) (subst (λ q. Member (lift_taps p srow i q) k) (sym h) n)))

    has_stub : (i : ℕ) (l : Lift) (b : ℕ) → slice_get p.lifts i ≡ Some l → IsSlice p b → (b ≡ suc l.slice → ⊥)
        → Member all (m (tap R (extra (lift_stub i b)) (row (place b l.start))))
    has_stub i l zero h s d = absurd (let z = s.0 in omega (arith, z))
    has_stub i l (suc b) h s d =
        in_lift i l (m (tap R (extra (lift_stub i (suc b))) (row (place (suc b) l.start)))) h
        (inr (map_member (λ b. mark TapR b (suc (srow l.start)) (lift_column p i)) (others_of p l) (suc b)
        (filter_member (λ b. not (b == suc l.slice)) (slices_of p) (suc b) (in_slices p stub (suc b) s)
        (same_not p stub (suc b) (suc l.slice) d))))

    in_bit : (i : ℕ) (g : Programmed) (j : ℕ) (k : Mark) → slice_get p.programs i ≡ Some g → suc j ≤ p.width
        → Member (of_bit g j (slice_get g.bits j)) k → Member all k
    in_bit i g j k h le n =
        behind_lifts k
        (append_left bits chains k
        (flat_member (λ i. bit_marks p top srow (slice_get p.programs i)) (range_with_len 0 (length p.programs)) i k
        (numbered p.programs i g h)
        (subst (λ q. Member (bit_marks p top srow q) k) (sym h)
        (flat_member (λ j. of_bit g j (slice_get g.bits j)) (range_with_len 0 p.width) j k
        (range_has 0 p.width j (omega arith) (omega (arith, le))) n))))

    in_chain : (i : ℕ) (c : Carry) (k : Mark) → slice_get p.chains i ≡ Some c → Member (chain_taps p srow (Some c)) k
        → Member all k
    in_chain i c k h n =
        behind_lifts k
        (append_right bits chains k
        (flat_member (λ i. chain_taps p srow (slice_get p.chains i)) (range_with_len 0 (length p.chains)) i k
        (numbered p.chains i c h) (subst (λ q. Member (chain_taps p srow q) k) (sym h) n)))

    in_links : (i : ℕ) (c : Carry) (j : ℕ) (k : Mark) → slice_get p.chains i ≡ Some c → j < p.width
        → Member (link_taps p srow c j) k → Member all k
    in_links i c j k h lt n =
        in_chain i c k h
        (inr (flat_member (link_taps p srow c) (range_with_len 0 p.width) j k
        (range_has 0 p.width j (omega arith) (omega (arith, lt))) n))

    pub has_tie : (t : Tie (Wire Across)) → PathTie p stub t → Member all (m t)
    has_tie t (of_net b k h n) = has_net b t h (tie_listed Across b (stub b) (parts p b) t n)
    has_tie t (of_phase b ph h) = has_phase b ph h
    has_tie t (of_cast i c h) = has_cast i c h
    has_tie t (of_cast_slice i c b h s) = has_slice_cast i c b h s
    has_tie t (of_lift i l h) = has_lift i l h
    has_tie t (of_lift_slice i l h) = in_lift i l (m t) h (inl refl)
    has_tie t (of_lift_stub i l b h s d) = has_stub i l b h s d
    has_tie t (of_below i c j h lt) =
        in_links i c j (m t) h lt
        (inl (sym (ap (mark (tap_tile (side_of j)) (suc j) (suc (srow (below c)))) (chain_same i c h))))
    has_tie t (of_above i c j h le) =
        in_links i c j (m t) h (omega (arith, le))
        (inr (inl (sym (ap (mark (tap_tile (side_of (suc j))) (suc j) (suc (srow (above c)))) (chain_same i c h)))))
    has_tie t (of_open i c h) =
        in_chain i c (m t) h
        (inl (sym (ap (mark (tap_tile (side_of (open_gap p c))) (max 1 (open_gap p c)) 0) (chain_same i c h))))
    has_tie t (of_bit_ground i g j h le) = in_bit i g j (m t) h le (inl refl)
    has_tie t (of_bit_pull i g j h le) = in_bit i g j (m t) h le (inr (inl refl))
    has_tie t (of_one i g j h le b) =
        in_bit i g j (m t) h le
        (inr (inr (subst (λ o. Member (bit_tap srow (suc j) g.net (home (plain_slice p) g.net) o) (m t)) (sym b)
        (inl refl))))
    has_tie t (of_zero i g j h le b) =
        in_bit i g j (m t) h le
        (inr (inr (subst (λ o. Member (bit_tap srow (suc j) g.net (home (plain_slice p) g.net) o) (m t)) (sym b)
        (inl refl))))

    -- ---- so it is made of them

    to_ties : (k : Mark) → Contains all k → Contains (map m (path_ties p stub)) k
    to_ties k c =
        let w = of_all k (contains_member all k c) in
        member_contains (map m (path_ties p stub)) k
        (subst (Member (map m (path_ties p stub))) w.here
        (map_member m (path_ties p stub) w.tie (path_in_list p stub w.tie w.is)))

    from_ties : (k : Mark) → Contains (map m (path_ties p stub)) k → Contains all k
    from_ties k c =
        let w = member_map m (path_ties p stub) k (contains_member (map m (path_ties p stub)) k c) in
        member_contains all k (subst (Member all) w.2 (has_tie w.0 (path_listed p stub w.0 w.1)))

    pub is_made : IsMadeOf Across (made.y p ready control slices control_tracks slice_tracks) (path_rows p)
        (path_columns p stub) (path_ties p stub) (path_laid p (columns_wanted p) control slices)
    is_made = record {
      segments = made.segments_named p ready control slices control_tracks slice_tracks;
      lines = made.lines_named p ready control slices control_tracks slice_tracks;
      marks = λ k. (to_ties k, from_ties k);
    }
