-- The slices of a path, with the lines that join them, may be added to a fabric that has room for them.
use Rattle.std.proofs.Common.{◌≡◌, inl, inr, ℕ, zero, suc, ◌<◌, ◌≤◌, ◌+◌, Option, Some, None, Bool, true, false}
use Rattle.std.proofs.Common.{List, [], ◌∷◌, ◌++◌, length, refl, sym, ◌∙◌, ap, subst, arith, not}
use Rattle.std.specs.Prelude.{slice_get, flat_map, slice_index, max, ◌==◌, ◌≢◌}
use Rattle.std.specs.List.{range_with_len}
use Rattle.std.proofs.lemmas.List.{append-nil}
use Rattle.mp_base.proofs.Members.{Member, member_contains, member_map, map_member, member_filter, range_has}
use Rattle.mp_base.proofs.Members.{member_append, append_left, append_right, member_flat, flat_member}
use Rattle.tile_cells.specs.declared.tile.Tile.TheVariants.{TapL, TapR, PullUp}
use Rattle.fabric.specs.declared.thing.Line.{Line}
use Rattle.fabric.specs.declared.thing.Mark.{Mark}
use Rattle.fabric.specs.Plan.{Plan, IsFabric, IsLine, IsMark, LinesApart, MarksApart, rows_of, with_added}
use Rattle.nor_net.specs.Shape.{IsNet}
use Rattle.nor_net.specs.declared.net.Phase.TheVariants.{A, B, C}
use Rattle.array_form.specs.Homes.{home}
use Rattle.array_form.specs.Laying.{AreTracks, band_segment, band_segments, band_lines, band_marks}
use Rattle.array_form.specs.Lists.{mark, tap_tile}
use Rattle.array_form.specs.Place.{cols_in}
use Rattle.array_form.proofs.Added.{added_is_fabric}
use Rattle.array_form.proofs.Laid.{all_at}
use Rattle.array_form.proofs.Tracking.{tracks_from}
use Rattle.slice_form.specs.Joints.{joint_lines}
use Rattle.slice_form.specs.Path.{Path, Carry, Cast, Lift, Programmed, IsSlice, parts}
use Rattle.slice_form.specs.PathLists.{slices_of, others_of}
use Rattle.slice_form.specs.PathWires.{side_of, below, above, open_gap}
use Rattle.slice_form.specs.Slices.{cast_column, chain_column, columns_of, control_columns, lift_column}
use Rattle.slice_form.specs.Slices.{plain_slice, slice_columns}
use Rattle.slice_form.specs.Whole.{path_of}
use Rattle.slice_form.proofs.Joints.{joints_apart}
use Rattle.slice_form.proofs.Lists.{not_same, slice_in}
use Rattle.slice_laying.specs.Added.{slice_cols, slice_segments, slice_lines, slice_marks, trunk_taps}
use Rattle.slice_laying.specs.Added.{cast_taps, lift_taps, bit_tap, bit_marks, link_taps, chain_taps, joint_marks}
use Rattle.slice_laying.specs.Added.{with_slices}
use Rattle.slice_laying.specs.Fitting.{HasRoomFor, SlicesFit}
use Rattle.slice_laying.specs.Paths.{IsPlaceable}
use Rattle.slice_laying.proofs.JointApart.{IsJointMark, base_first, in_below, mark_is, marks_apart}
use Rattle.slice_laying.proofs.JointLines.{IsJoint, joint_is, joint_fits}
use Rattle.slice_laying.proofs.SliceColumns.{columns_differ}
use Rattle.slice_laying.proofs.Stacked.{added_twice, line_owned, mark_owned, nets_fit}
use Rattle.slice_laying.proofs.Standing as standing
use Rattle.slice_laying.proofs.WholePaths.{placeable}

-- rows of all bands, those of the control each for itself
abbrev pub cols_at : Path → ℕ → ℕ → List ℕ
cols_at p zero = cols_in (control_columns p) p.control
cols_at p (suc b) = slice_cols p

abbrev pub row_at : (ℕ → ℕ) → (ℕ → ℕ) → ℕ → ℕ → ℕ
row_at control row zero = control
row_at control row (suc b) = row

abbrev pub count_at : ℕ → ℕ → ℕ → ℕ
count_at control rows zero = control
count_at control rows (suc b) = rows

module _ (p : Path) (ready : IsPlaceable p) (row : ℕ → ℕ) (rows : ℕ)
    (tracks : AreTracks (slice_columns p) p.slice (slice_cols p) row rows)
  where
    abbrev each_own : ℕ → ℕ
    each_own k = k

    tracks_at : (b : ℕ) → b ≤ p.width
        → AreTracks (columns_of p b) (parts p b) (cols_at p b) (row_at each_own row b)
        (count_at (length p.control + 3) rows b)
    tracks_at zero h =
        tracks_from (control_columns p) p.control (λ k. k) (length p.control + 3) (λ k lt. lt)
        (λ i j hi hj ne e. absurd (ne e))
    tracks_at (suc b) h = tracks

    -- ---- the marks of the lines that join bands stand

    abbrev IsAbove : ℕ → Type 0
    IsAbove b = 1 ≤ b

    module _ (f : Plan) (lines : (l : Line) → Member (joint_lines p) l → Member f.lines l)
        (segments : (b n : ℕ) → b ≤ p.width → IsAbove b → n < length (parts p b) + 3
        → Member f.segments (band_segment b (cols_at p b) (row_at each_own row b) n))
        (tops : (b : ℕ) → IsSlice p b → rows_of f b ≡ suc rows)
      where
        trunks_stand : (b : ℕ) → IsSlice p b → (m : Mark) → Member (trunk_taps p row b) m → IsMark f m
        trunks_stand zero s m k = absurd (let z = s.0 in omega (arith, z))
        trunks_stand (suc b) s m (inl e) =
            subst (IsMark f) e
            (standing.trunk_stands p ready.path (cols_at p) (row_at each_own row) (count_at 0 (suc rows))
            (count_at (length p.control + 3) rows) tracks_at f lines IsAbove segments (suc b) A s.1 s.0)
        trunks_stand (suc b) s m (inr (inl e)) =
            subst (IsMark f) e
            (standing.trunk_stands p ready.path (cols_at p) (row_at each_own row) (count_at 0 (suc rows))
            (count_at (length p.control + 3) rows) tracks_at f lines IsAbove segments (suc b) B s.1 s.0)
        trunks_stand (suc b) s m (inr (inr (inl e))) =
            subst (IsMark f) e
            (standing.trunk_stands p ready.path (cols_at p) (row_at each_own row) (count_at 0 (suc rows))
            (count_at (length p.control + 3) rows) tracks_at f lines IsAbove segments (suc b) C s.1 s.0)
        trunks_stand (suc b) s m (inr (inr (inr k))) = absurd k

        cast_stands : (i : ℕ) (c : Cast) (b : ℕ) → slice_get p.casts i ≡ Some c → IsSlice p b
            → IsMark f (mark TapL b (suc (row c.slice)) (cast_column i))
        cast_stands i c zero h s = absurd (let z = s.0 in omega (arith, z))
        cast_stands i c (suc b) h s =
            standing.slice_cast_stands p ready.path (cols_at p) (row_at each_own row) (count_at 0 (suc rows))
            (count_at (length p.control + 3) rows) tracks_at f lines IsAbove segments i c b h s s.0

        casts_stand : (i : ℕ) (q : Option Cast) (m : Mark) → slice_get p.casts i ≡ q → Member (cast_taps p row i q) m
            → IsMark f m
        casts_stand i None m h k = absurd k
        casts_stand i (Some c) m h k =
            let w = member_map (λ b. mark TapL b (suc (row c.slice)) (cast_column i)) (slices_of p) m k in
            subst (IsMark f) w.2 (cast_stands i c w.0 h (slice_in p (λ b n. false) w.0 w.1))

        stub_stands : (i : ℕ) (l : Lift) (b : ℕ) → slice_get p.lifts i ≡ Some l → IsSlice p b → b ≢ suc l.slice
            → IsMark f (mark TapR b (suc (row l.start)) (lift_column p i))
        stub_stands i l zero h s d = absurd (let z = s.0 in omega (arith, z))
        stub_stands i l (suc b) h s d =
            standing.stub_stands p ready.path (cols_at p) (row_at each_own row) (count_at 0 (suc rows))
            (count_at (length p.control + 3) rows) tracks_at f lines IsAbove segments i l b h s d s.0

        lifts_stand : (i : ℕ) (q : Option Lift) (m : Mark) → slice_get p.lifts i ≡ q → Member (lift_taps p row i q) m
            → IsMark f m
        lifts_stand i None m h k = absurd k
        lifts_stand i (Some l) m h (inl e) =
            subst (IsMark f) e
            (standing.slice_lift_stands p ready.path (cols_at p) (row_at each_own row) (count_at 0 (suc rows))
            (count_at (length p.control + 3) rows) tracks_at f lines IsAbove segments i l h (omega arith))
        lifts_stand i (Some l) m h (inr k) =
            let w = member_map (λ b. mark TapR b (suc (row l.start)) (lift_column p i)) (others_of p l) m k in
            let u = member_filter (λ b. not (b == suc l.slice)) (slices_of p) w.0 w.1 in
            subst (IsMark f) w.2
            (stub_stands i l w.0 h (slice_in p (λ b n. false) w.0 u.0)
            (not_same p (λ b n. false) w.0 (suc l.slice) u.1))

        tap_of_bit : (i : ℕ) (g : Programmed) (k : ℕ) (o : Option Bool) (m : Mark) → slice_get p.programs i ≡ Some g
            → suc k ≤ p.width → slice_get g.bits k ≡ o
            → Member (bit_tap row (suc k) g.net (home (plain_slice p) g.net) o) m → IsMark f m
        tap_of_bit i g k None m h le bit q = absurd q
        tap_of_bit i g k (Some true) m h le bit (inl e) =
            subst (IsMark f) e
            (standing.one_stands p ready.path (cols_at p) (row_at each_own row) (count_at 0 (suc rows))
            (count_at (length p.control + 3) rows) tracks_at f lines IsAbove segments i g k h le bit (omega arith))
        tap_of_bit i g k (Some true) m h le bit (inr q) = absurd q
        tap_of_bit i g k (Some false) m h le bit (inl e) =
            subst (IsMark f) e
            (standing.zero_stands p ready.path (cols_at p) (row_at each_own row) (count_at 0 (suc rows))
            (count_at (length p.control + 3) rows) tracks_at f lines IsAbove segments i g k h le bit (omega arith))
        tap_of_bit i g k (Some false) m h le bit (inr q) = absurd q

        of_bit : (i : ℕ) (g : Programmed) (k : ℕ) (m : Mark) → slice_get p.programs i ≡ Some g → suc k ≤ p.width
            → Member (mark TapR (suc k) 0 (home (plain_slice p) g.net) ∷ mark PullUp (suc k) (suc rows)
            (home (plain_slice p) g.net) ∷ bit_tap row (suc k) g.net (home (plain_slice p) g.net)
            (slice_get g.bits k)) m
            → IsMark f m
        of_bit i g k m h le (inl e) =
            subst (IsMark f) e
            (standing.bit_ground_stands p ready.path (cols_at p) (row_at each_own row) (count_at 0 (suc rows))
            (count_at (length p.control + 3) rows) tracks_at f lines IsAbove segments i g k h le)
        of_bit i g k m h le (inr (inl e)) =
            subst (IsMark f) e
            (standing.bit_pull_stands p ready.path (cols_at p) (row_at each_own row) (count_at 0 (suc rows))
            (count_at (length p.control + 3) rows) tracks_at f lines IsAbove segments i g k (suc rows) h le
            (sym (tops (suc k) (omega arith, le))))
        of_bit i g k m h le (inr (inr q)) = tap_of_bit i g k (slice_get g.bits k) m h le refl q

        bits_stand : (i : ℕ) (q : Option Programmed) (m : Mark) → slice_get p.programs i ≡ q
            → Member (bit_marks p (suc rows) row q) m → IsMark f m
        bits_stand i None m h k = absurd k
        bits_stand i (Some g) m h k =
            let w = member_flat (λ k. mark TapR (suc k) 0 (home (plain_slice p) g.net) ∷ mark PullUp (suc k) (suc rows)
            (home (plain_slice p) g.net) ∷ bit_tap row (suc k) g.net (home (plain_slice p) g.net) (slice_get g.bits k))
            (range_with_len 0 p.width) m k in
            of_bit i g w.0 m h (let l = in_below p w.0 w.1 in omega (arith, l)) w.2

        link_stands : (i : ℕ) (c : Carry) (k : ℕ) (m : Mark) → slice_get p.chains i ≡ Some c → k < p.width
            → Member (link_taps p row c k) m → IsMark f m
        link_stands i c k m h lt (inl e) =
            subst (IsMark f) e
            (subst (λ q. IsMark f (mark (tap_tile (side_of k)) (suc k) (suc (row (below c))) (chain_column p q))) h
            (standing.below_stands p ready.path (cols_at p) (row_at each_own row) (count_at 0 (suc rows))
            (count_at (length p.control + 3) rows) tracks_at f lines IsAbove segments i c k h lt (omega arith)))
        link_stands i c k m h lt (inr (inl e)) =
            subst (IsMark f) e
            (subst (λ q. IsMark f (mark (tap_tile (side_of (suc k))) (suc k) (suc (row (above c)))
            (chain_column p q))) h
            (standing.above_stands p ready.path (cols_at p) (row_at each_own row) (count_at 0 (suc rows))
            (count_at (length p.control + 3) rows) tracks_at f lines IsAbove segments i c k h (omega (arith, lt))
            (omega arith)))
        link_stands i c k m h lt (inr (inr q)) = absurd q

        chains_stand : (i : ℕ) (q : Option Carry) (m : Mark) → slice_get p.chains i ≡ q → Member (chain_taps p row q) m
            → IsMark f m
        chains_stand i None m h k = absurd k
        chains_stand i (Some c) m h (inl e) =
            subst (IsMark f) e
            (subst (λ q. IsMark f (mark (tap_tile (side_of (open_gap p c))) (max 1 (open_gap p c)) 0
            (chain_column p q)))
            h
            (standing.open_stands p ready.path (cols_at p) (row_at each_own row) (count_at 0 (suc rows))
            (count_at (length p.control + 3) rows) tracks_at f lines IsAbove segments i c h))
        chains_stand i (Some c) m h (inr k) =
            let w = member_flat (link_taps p row c) (range_with_len 0 p.width) m k in
            link_stands i c w.0 m h (in_below p w.0 w.1) w.2

        abbrev trunks : List Mark
        trunks = flat_map (trunk_taps p row) (slices_of p)

        abbrev casts : List Mark
        casts = flat_map (λ i. cast_taps p row i (slice_get p.casts i)) (range_with_len 0 (length p.casts))

        abbrev lifts : List Mark
        lifts = flat_map (λ i. lift_taps p row i (slice_get p.lifts i)) (range_with_len 0 (length p.lifts))

        abbrev bits : List Mark
        bits = flat_map (λ i. bit_marks p (suc rows) row (slice_get p.programs i)) (range_with_len 0
            (length p.programs))

        abbrev chains : List Mark
        chains = flat_map (λ i. chain_taps p row (slice_get p.chains i)) (range_with_len 0 (length p.chains))

        marks_stand : (m : Mark) → Member (joint_marks p (suc rows) row) m → IsMark f m
        marks_stand m k = elim (member_append trunks (casts ++ (lifts ++ (bits ++ chains))) m k) [
          | inl q ↦ (let w = member_flat (trunk_taps p row) (slices_of p) m q in
              trunks_stand w.0 (slice_in p (λ b n. false) w.0 w.1) m w.2)
          | inr q ↦ elim (member_append casts (lifts ++ (bits ++ chains)) m q) [
            | inl s ↦ (let w = member_flat (λ i. cast_taps p row i (slice_get p.casts i))
                (range_with_len 0 (length p.casts)) m s in casts_stand w.0 (slice_get p.casts w.0) m refl w.2)
            | inr s ↦ elim (member_append lifts (bits ++ chains) m s) [
              | inl t ↦ (let w = member_flat (λ i. lift_taps p row i (slice_get p.lifts i))
                  (range_with_len 0 (length p.lifts)) m t in lifts_stand w.0 (slice_get p.lifts w.0) m refl w.2)
              | inr t ↦ elim (member_append bits chains m t) [
                | inl u ↦ (let w = member_flat (λ i. bit_marks p (suc rows) row (slice_get p.programs i))
                    (range_with_len 0 (length p.programs)) m u in
                    bits_stand w.0 (slice_get p.programs w.0) m refl w.2)
                | inr u ↦ (let w = member_flat (λ i. chain_taps p row (slice_get p.chains i))
                    (range_with_len 0 (length p.chains)) m u in
                    chains_stand w.0 (slice_get p.chains w.0) m refl w.2)
              ]
            ]
          ]
        ]

    -- ---- the whole

    module _ (shape : IsNet p.slice) (wide : 1 ≤ p.width) (f : Plan) (lawful : IsFabric f) (room : HasRoomFor f p rows)
      where
        abbrev nets : Plan
        nets = with_added f (slice_segments p row) (slice_lines p) (slice_marks p (suc rows) row)

        nets_lawful : IsFabric nets
        nets_lawful = nets_fit p ready shape row rows tracks wide f lawful room

        abbrev all : Plan
        all = with_added nets [] (joint_lines p) (joint_marks p (suc rows) row)

        lines_fit : (l : Line) → Member (joint_lines p) l → IsLine nets l
        lines_fit l m = joint_fits p ready nets room.high room.columns l (joint_is p ready l m)

        old_lines_apart : (l m : Line) → Member f.lines l → IsJoint p m → LinesApart l m
        old_lines_apart l m k j e s = elim (room.no_lines l (member_contains f.lines l k)) [
          | inr far ↦ inr (let t = j.last in omega (arith, far, t))
          | inl low ↦ elim j.column [
            | inl c ↦ absurd
                (let o = (all_at (IsLine f) f.lines l lawful.lines k).order in
                let b = room.free l (member_contains f.lines l k) (omega (arith, o, low)) in let u = c.1 in
                omega (arith, e, b, u))
            | inr c ↦ inl (let u = c.3 in omega (arith, low, u))
          ]
        ]

        own_lines_apart : (l m : Line) → Member (slice_lines p) l → IsJoint p m → LinesApart l m
        own_lines_apart l m k j e s =
            let w = member_flat (λ b. band_lines b (slice_columns p) p.slice) (slices_of p) l k in
            let o = line_owned p ready w.0 l w.2 in
            let at = (o.2).column in
            absurd (elim j.column [
              | inl c ↦ (let b = base_first p o.0 in let u = c.1 in omega (arith, e, at, b, u))
              | inr c ↦ columns_differ p ready o.0 c.0 o.1 c.1 (sym at ∙ e ∙ c.2)
            ])

        lines_apart : (l m : Line) → Member nets.lines l → Member (joint_lines p) m → LinesApart l m
        lines_apart l m k q = elim (member_append f.lines (slice_lines p) l k) [
          | inl u ↦ old_lines_apart l m u (joint_is p ready m q)
          | inr u ↦ own_lines_apart l m u (joint_is p ready m q)
        ]

        own_marks_apart : (m k : Mark) → Member (slice_marks p (suc rows) row) m → IsJointMark p k → MarksApart m k
        own_marks_apart m k q j b r e =
            let w = member_flat (λ b. band_marks b (suc rows) row (slice_columns p) p.slice) (slices_of p) m q in
            let o = mark_owned p ready w.0 (suc rows) row m w.2 in
            let at = (o.2).column in
            elim j.column [
              | inl c ↦ (let b = base_first p o.0 in let u = c.1 in omega (arith, e, at, b, u))
              | inr c ↦ columns_differ p ready o.0 c.0 o.1 c.1 (sym at ∙ e ∙ c.2)
            ]

        marks_new : (m k : Mark) → Member nets.marks m → Member (joint_marks p (suc rows) row) k → MarksApart m k
        marks_new m k q s = elim (member_append f.marks (slice_marks p (suc rows) row) m q) [
          | inl u ↦ (λ b r e. room.no_marks m (member_contains f.marks m u)
              (subst (IsSlice p) (sym b) (mark_is p ready row rows tracks k s).band))
          | inr u ↦ own_marks_apart m k u (mark_is p ready row rows tracks k s)
        ]

        lines_there : (l : Line) → Member (joint_lines p) l → Member all.lines l
        lines_there l m = append_right nets.lines (joint_lines p) l m

        segments_there : (b n : ℕ) → b ≤ p.width → IsAbove b → n < length (parts p b) + 3
            → Member all.segments (band_segment b (cols_at p b) (row_at each_own row b) n)
        segments_there zero n le a lt = absurd (omega (arith, a))
        segments_there (suc b) n le a lt =
            let s = band_segment (suc b) (slice_cols p) row n in
            append_left nets.segments [] s
            (append_right f.segments (slice_segments p row) s
            (flat_member (λ b. band_segments b (slice_cols p) row p.slice) (slices_of p) (suc b) s
            (range_has 1 p.width (suc b) a (omega (arith, le)))
            (map_member (band_segment (suc b) (slice_cols p) row) (range_with_len 0 (length p.slice + 3)) n
            (range_has 0 (length p.slice + 3) n (omega arith) (omega (arith, lt))))))

        all_lawful : IsFabric all
        all_lawful =
            added_is_fabric nets nets_lawful (joint_lines p) (joint_marks p (suc rows) row) lines_fit
            (joints_apart p ready.path ready.once) lines_apart
            (marks_stand all lines_there segments_there room.rows_are) (marks_apart p ready row rows tracks) marks_new

        all_is : all ≡ with_slices f p (suc rows) row
        all_is =
            added_twice f (slice_segments p row) [] (slice_lines p) (joint_lines p) (slice_marks p (suc rows) row)
            (joint_marks p (suc rows) row)
            ∙ ap (λ s. with_added f s (slice_lines p ++ joint_lines p)
            (slice_marks p (suc rows) row ++ joint_marks p (suc rows) row)) (append-nil (slice_segments p row))

        pub slices_lawful : IsFabric (with_slices f p (suc rows) row)
        slices_lawful = subst IsFabric all_is all_lawful

pub slices_fit : SlicesFit
slices_fit p control shape f lawful tracks room are =
    slices_lawful (path_of p) (placeable p control shape)
    (slice_index tracks.row) tracks.rows are shape p.whole.width.0 f
    lawful room
