-- The taps of the lines that join bands, in the band of the control.
use Rattle.std.proofs.Common.{◌≡◌, inl, inr, ℕ, zero, suc, ◌<◌, ◌≤◌, ◌+◌, Option, Some, None}
use Rattle.std.proofs.Common.{List, [], ◌++◌, length, refl, sym, ap, subst, arith}
use Rattle.std.specs.Prelude.{slice_get, flat_map, slice_index}
use Rattle.std.specs.List.{range_with_len}
use Rattle.mp_base.proofs.Members.{Member, map_member, range_members, range_has, member_append, append_left}
use Rattle.mp_base.proofs.Members.{append_right, member_flat}
use Rattle.tile_cells.specs.declared.tile.Tile.TheVariants.{TapL}
use Rattle.fabric.specs.declared.thing.Line.{Line}
use Rattle.fabric.specs.declared.thing.Mark.{Mark}
use Rattle.fabric.specs.Plan.{Plan, IsFabric, IsMark, MarksApart}
use Rattle.nor_net.specs.declared.net.Phase.TheVariants.{A, B, C}
use Rattle.track_assign.specs.declared.packing.Tracks.{Tracks}
use Rattle.array_form.specs.Homes.{phase_number}
use Rattle.array_form.specs.Laying.{AreTracks, band_segment, band_marks}
use Rattle.array_form.specs.Lists.{mark}
use Rattle.array_form.proofs.Added.{added_is_fabric}
use Rattle.array_form.proofs.Pairs.{Pairs, pairs_append, pairs_flat_range}
use Rattle.slice_form.specs.Joints.{joint_lines}
use Rattle.slice_form.specs.Path.{Path, Cast, Lift, parts}
use Rattle.slice_form.specs.PathLists.{slices_of}
use Rattle.slice_form.specs.Slices.{base_of, cast_column, columns_of, columns_wanted, lift_column, slice_columns}
use Rattle.slice_form.specs.Whole.{path_of}
use Rattle.slice_laying.specs.Added.{slice_segments, slice_lines, slice_marks, joint_marks, of_phases}
use Rattle.slice_laying.specs.Fitting.{AreSliceTracks}
use Rattle.slice_laying.specs.Paths.{IsPlaceable}
use Rattle.slice_laying.specs.Taps.{control_cast_taps, control_lift_taps, control_taps}
use Rattle.slice_laying.proofs.JointApart.{by_column, mark_is, phases_apart}
use Rattle.slice_laying.proofs.SlicesStand.{cols_at, row_at, count_at}
use Rattle.slice_laying.proofs.Stacked.{mark_owned}
use Rattle.slice_laying.proofs.Standing as standing
use Rattle.slice_laying.proofs.WholePaths.{placeable}
use Rattle.slice_chip.specs.Sliced.{AreControlTracks, TapsFit, control_cols, control_laid, path_laid, slices_laid}
use Rattle.slice_chip.proofs.ControlRoom.{mark_in}

module _ (p : Path) (ready : IsPlaceable p) (control slices : Tracks) (below : AreControlTracks p control)
    (above : AreSliceTracks p slices)
  where
    abbrev crow : ℕ → ℕ
    crow = slice_index control.row

    abbrev srow : ℕ → ℕ
    srow = slice_index slices.row

    abbrev pub cols : ℕ → ℕ → List ℕ
    cols = cols_at p

    abbrev pub rows : ℕ → ℕ → ℕ
    rows = row_at crow srow

    abbrev pub counts : ℕ → ℕ
    counts = count_at control.rows slices.rows

    abbrev pub tops : ℕ → ℕ
    tops = count_at (suc control.rows) (suc slices.rows)

    pub tracks_at : (b : ℕ) → b ≤ p.width
        → AreTracks (columns_of p b) (parts p b) (cols b)
        (rows b) (counts b)
    tracks_at zero h = below
    tracks_at (suc b) h = above

    abbrev before : Plan
    before = slices_laid p (columns_wanted p) control slices

    abbrev all : Plan
    all = path_laid p (columns_wanted p) control slices

    abbrev IsControl : ℕ → Type 0
    IsControl b = b ≡ 0

    lines_there : (l : Line) → Member (joint_lines p) l → Member all.lines l
    lines_there l m =
        append_left before.lines [] l
        (append_right (control_laid p (columns_wanted p) control slices).lines (slice_lines p ++ joint_lines p) l
        (append_right (slice_lines p) (joint_lines p) l m))

    segments_there : (b n : ℕ) → b ≤ p.width → IsControl b → n < length (parts p b) + 3
        → Member all.segments (band_segment b (cols b) (rows b) n)
    segments_there zero n le z lt =
        let s = band_segment 0 (control_cols p) crow n in
        append_left before.segments [] s
        (append_left (control_laid p (columns_wanted p) control slices).segments (slice_segments p srow) s
        (map_member (band_segment 0 (control_cols p) crow) (range_with_len 0 (length p.control + 3)) n
        (range_has 0 (length p.control + 3) n (omega arith) (omega (arith, lt)))))
    segments_there (suc b) n le z lt = absurd (omega (arith, z))

    -- ---- each stands

    abbrev phases : List Mark
    phases = of_phases (λ ph. mark TapL 0 (suc (crow (length p.control + phase_number ph))) (1 + phase_number ph))

    abbrev casts : List Mark
    casts = flat_map (λ i. control_cast_taps crow i (slice_get p.casts i)) (range_with_len 0 (length p.casts))

    abbrev lifts : List Mark
    lifts = flat_map (λ i. control_lift_taps p crow i (slice_get p.lifts i)) (range_with_len 0 (length p.lifts))

    phase_stands : (m : Mark) → Member phases m → IsMark all m × (m.band ≡ 0) × (m.column < 4)
    phase_stands m (inl e) = (
      subst (IsMark all) e
          (standing.trunk_stands p ready.path cols rows tops counts tracks_at all lines_there IsControl segments_there 0
          A (omega arith) refl),
      sym (ap (λ (m : Mark). m.band) e),
      (let c = ap (λ (m : Mark). m.column) e in omega (arith, c)),
    )
    phase_stands m (inr (inl e)) = (
      subst (IsMark all) e
          (standing.trunk_stands p ready.path cols rows tops counts tracks_at all lines_there IsControl segments_there 0
          B (omega arith) refl),
      sym (ap (λ (m : Mark). m.band) e),
      (let c = ap (λ (m : Mark). m.column) e in omega (arith, c)),
    )
    phase_stands m (inr (inr (inl e))) = (
      subst (IsMark all) e
          (standing.trunk_stands p ready.path cols rows tops counts tracks_at all lines_there IsControl segments_there 0
          C (omega arith) refl),
      sym (ap (λ (m : Mark). m.band) e),
      (let c = ap (λ (m : Mark). m.column) e in omega (arith, c)),
    )
    phase_stands m (inr (inr (inr k))) = absurd k

    cast_stands : (i : ℕ) (q : Option Cast) (m : Mark) → slice_get p.casts i ≡ q
        → Member (control_cast_taps crow i q) m → IsMark all m × (m.band ≡ 0) × (m.column ≡ cast_column i)
    cast_stands i None m h k = absurd k
    cast_stands i (Some c) m h (inl e) = (
      subst (IsMark all) e
          (standing.cast_stands p ready.path cols rows tops counts tracks_at all lines_there IsControl segments_there i
          c h refl),
      sym (ap (λ (m : Mark). m.band) e),
      sym (ap (λ (m : Mark). m.column) e),
    )
    cast_stands i (Some c) m h (inr k) = absurd k

    lift_stands : (i : ℕ) (q : Option Lift) (m : Mark) → slice_get p.lifts i ≡ q
        → Member (control_lift_taps p crow i q) m → IsMark all m × (m.band ≡ 0) × (m.column ≡ lift_column p i)
    lift_stands i None m h k = absurd k
    lift_stands i (Some l) m h (inl e) = (
      subst (IsMark all) e
          (standing.lift_stands p ready.path cols rows tops counts tracks_at all lines_there IsControl segments_there i
          l h refl),
      sym (ap (λ (m : Mark). m.band) e),
      sym (ap (λ (m : Mark). m.column) e),
    )
    lift_stands i (Some l) m h (inr k) = absurd k

    casts_stand : (m : Mark) → Member casts m
        → IsMark all m × (m.band ≡ 0) × (4 ≤ m.column) × (m.column < 4 + length p.casts)
    casts_stand m k =
        let w = member_flat (λ i. control_cast_taps crow i (slice_get p.casts i)) (range_with_len 0
        (length p.casts)) m k
        in
        let r = (range_members 0 (length p.casts) w.0 w.1).1 in
        let u = cast_stands w.0 (slice_get p.casts w.0) m refl w.2 in let c = u.2 in
        (u.0, u.1, omega (arith, c), omega (arith, c, r))

    lifts_stand : (m : Mark) → Member lifts m
        → IsMark all m × (m.band ≡ 0) × (4 + length p.casts ≤ m.column) × (m.column < base_of p)
    lifts_stand m k =
        let w = member_flat (λ i. control_lift_taps p crow i (slice_get p.lifts i)) (range_with_len 0
        (length p.lifts)) m
        k in
        let r = (range_members 0 (length p.lifts) w.0 w.1).1 in
        let u = lift_stands w.0 (slice_get p.lifts w.0) m refl w.2 in let c = u.2 in
        (u.0, u.1, omega (arith, c), omega (arith, c, r))

    tap_stands : (m : Mark) → Member (control_taps p crow) m
        → IsMark all m × (m.band ≡ 0) × (m.column < base_of p)
    tap_stands m k = elim (member_append phases (casts ++ lifts) m k) [
      | inl q ↦ (let u = phase_stands m q in let c = u.2 in (u.0, u.1, omega (arith, c)))
      | inr q ↦ elim (member_append casts lifts m q) [
        | inl s ↦ (let u = casts_stand m s in let c = u.3 in (u.0, u.1, omega (arith, c)))
        | inr s ↦ (let u = lifts_stand m s in (u.0, u.1, u.3))
      ]
    ]

    -- ---- no two at one place

    cast_alone : (i : ℕ) (q : Option Cast) → Pairs MarksApart (control_cast_taps crow i q)
    cast_alone i None = tt
    cast_alone i (Some c) = (tt, tt)

    lift_alone : (i : ℕ) (q : Option Lift) → Pairs MarksApart (control_lift_taps p crow i q)
    lift_alone i None = tt
    lift_alone i (Some l) = (tt, tt)

    casts_apart : Pairs MarksApart casts
    casts_apart =
        pairs_flat_range MarksApart (λ i. control_cast_taps crow i (slice_get p.casts i)) 0 (length p.casts)
        (λ i lo hi. cast_alone i (slice_get p.casts i))
        (λ i j l m lo lt hi u v. by_column l m (λ e.
        let x = (cast_stands i (slice_get p.casts i) l refl u).2 in
        let y = (cast_stands j (slice_get p.casts j) m refl v).2 in omega (arith, e, x, y, lt)))

    lifts_apart : Pairs MarksApart lifts
    lifts_apart =
        pairs_flat_range MarksApart (λ i. control_lift_taps p crow i (slice_get p.lifts i)) 0 (length p.lifts)
        (λ i lo hi. lift_alone i (slice_get p.lifts i))
        (λ i j l m lo lt hi u v. by_column l m (λ e.
        let x = (lift_stands i (slice_get p.lifts i) l refl u).2 in
        let y = (lift_stands j (slice_get p.lifts j) m refl v).2 in omega (arith, e, x, y, lt)))

    behind : (m : Mark) → Member (casts ++ lifts) m → 4 ≤ m.column
    behind m k = elim (member_append casts lifts m k)
        [ inl q ↦ (casts_stand m q).2 | inr q ↦ (let z = (lifts_stand m q).2 in omega (arith, z)) ]

    taps_apart : Pairs MarksApart (control_taps p crow)
    taps_apart =
        pairs_append MarksApart phases (casts ++ lifts)
        (phases_apart 0 (λ ph. suc (crow (length p.control + phase_number ph))))
        (pairs_append MarksApart casts lifts casts_apart lifts_apart
        (λ l m a b. by_column l m
        (λ e. let u = (casts_stand l a).3 in let v = (lifts_stand m b).2 in omega (arith, e, u, v))))
        (λ l m a b. by_column l m
        (λ e. let u = (phase_stands l a).2 in let v = behind m b in omega (arith, e, u, v)))

    -- ---- nor where another mark stands

    in_slices : (b : ℕ) → Member (slices_of p) b → 1 ≤ b
    in_slices b m = (range_members 1 p.width b m).0

    taps_new : (m k : Mark) → Member before.marks m → Member (control_taps p crow) k → MarksApart m k
    taps_new m k q s b r e =
        let t = tap_stands k s in let band = t.1 in let column = t.2 in
        elim (member_append (control_laid p (columns_wanted p) control slices).marks
        (slice_marks p (suc slices.rows) srow ++ joint_marks p (suc slices.rows) srow) m q) [
          | inl u ↦ (let w = (mark_in p control (suc control.rows) m u).1 in omega (arith, e, w, column))
          | inr u ↦ elim (member_append (slice_marks p (suc slices.rows) srow) (joint_marks p
              (suc slices.rows) srow) m u) [
                | inl v ↦ (let w = member_flat (λ b. band_marks b (suc slices.rows) srow (slice_columns p) p.slice)
                    (slices_of p) m v in
                    let i = in_slices w.0 w.1 in
                    let o = ((mark_owned p ready w.0 (suc slices.rows) srow m w.2).2).band in
                    omega (arith, b, i, o, band))
                | inr v ↦ (let j = ((mark_is p ready srow slices.rows above m v).band).0 in omega (arith, b, j, band))
              ]
        ]

    pub all_lawful : IsFabric before → IsFabric all
    all_lawful lawful =
        added_is_fabric before lawful [] (control_taps p crow) (λ l m. absurd m) tt (λ l m k q. absurd q)
        (λ m k. (tap_stands m k).0) taps_apart taps_new

pub taps_fit : TapsFit
taps_fit p control_net slice_net control slices below above lawful =
    all_lawful (path_of p) (placeable p control_net slice_net) control slices below above lawful
