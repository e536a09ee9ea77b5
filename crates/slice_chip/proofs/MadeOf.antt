-- What the fabric of a path is made of: the wires and ties of the path, in lists.
use Rattle.std.proofs.Common.{◌≡◌, ℕ, zero, suc, ◌≤◌, ◌+◌, Option, Some, None, Bool}
use Rattle.std.proofs.Common.{List, [], ◌∷◌, ◌++◌, length, map, refl, sym, ◌∙◌, ap, arith, append_assoc}
use Rattle.std.specs.Prelude.{slice_get, flat_map, slice_index}
use Rattle.std.specs.List.{range_with_len}
use Rattle.std.proofs.lemmas.List.{append-nil}
use Rattle.mp_base.proofs.Lists.{map_append}
use Rattle.fabric.specs.declared.thing.Side.TheVariants.{L, R}
use Rattle.fabric.specs.declared.thing.Line.{Line}
use Rattle.fabric.specs.Plan.{Plan}
use Rattle.fabric.specs.Switches.{Net}
use Rattle.fabric.specs.Switches.Net.{segment, line}
use Rattle.nor_net.specs.declared.net.Phase.TheVariants.{A, B, C}
use Rattle.track_assign.specs.declared.packing.Tracks.{Tracks}
use Rattle.array_form.specs.Band.{band_rows, band_columns}
use Rattle.array_form.specs.BandLayout.{Bands}
use Rattle.array_form.specs.Homes.{home}
use Rattle.array_form.specs.Laying.{band_segments, band_lines}
use Rattle.array_form.specs.Lists.{Layout, net_of, upright}
use Rattle.array_form.specs.Wires.{Wire, left, right, trunk, extra, place}
use Rattle.array_form.proofs.Bands.{rows_named, columns_named}
use Rattle.slice_form.specs.Joints.{trunk_line, lift_lines, bit_lines, joint_lines}
use Rattle.slice_form.specs.Path.{Path, Lift, Programmed, parts}
use Rattle.slice_form.specs.PathLists.{bands_of, slices_of, others_of, lift_columns, bit_columns, path_rows}
use Rattle.slice_form.specs.PathLists.{path_columns}
use Rattle.slice_form.specs.PathWires.{Across, cast_line, lift_line, lift_stub, chain_line}
use Rattle.slice_form.specs.Slices.{across_of, columns_wanted, ground_band}
use Rattle.slice_form.specs.Slices.{plain_slice, slice_columns, control_columns}
use Rattle.slice_form.proofs.Crossing as crossing
use Rattle.slice_laying.specs.Added.{slice_cols, slice_segments, slice_lines}
use Rattle.slice_laying.specs.Fitting.{AreSliceTracks}
use Rattle.slice_laying.specs.Paths.{IsPlaceable}
use Rattle.slice_chip.specs.Sliced.{AreControlTracks, control_cols, path_laid}
use Rattle.slice_chip.proofs.TapsStand.{cols, rows, counts, tops, tracks_at}

-- lists that are the same in each band are the same in all
flat_named : {A B D : Type 0} (g : ℕ → List A) (h : ℕ → List B) (k : A → D) (q : B → D)
    → ((b : ℕ) → 1 ≤ b → map k (g b) ≡ map q (h b)) → (a n : ℕ) → 1 ≤ a
    → map k (flat_map g (range_with_len a n)) ≡ map q (flat_map h (range_with_len a n))
flat_named g h k q e a zero lo = refl
flat_named g h k q e a (suc n) lo =
    map_append k (g a) (flat_map g (range_with_len (a + 1) n))
    ∙ (ap (λ l. l ++ map k (flat_map g (range_with_len (a + 1) n))) (e a lo)
    ∙ (ap (λ l. map q (h a) ++ l) (flat_named g h k q e (a + 1) n (omega (arith, lo)))
    ∙ sym (map_append q (h a) (flat_map h (range_with_len (a + 1) n)))))

map_named : {A B D : Type 0} (g : ℕ → A) (h : ℕ → B) (k : A → D) (q : B → D) → ((i : ℕ) → k (g i) ≡ q (h i))
    → (xs : List ℕ) → map k (map g xs) ≡ map q (map h xs)
map_named g h k q e [] = refl
map_named g h k q e (x ∷ xs) = λ i. e x i ∷ map_named g h k q e xs i

each_named : {A B D : Type 0} (g : ℕ → List A) (h : ℕ → List B) (k : A → D) (q : B → D)
    → ((i : ℕ) → map k (g i) ≡ map q (h i)) → (xs : List ℕ) → map k (flat_map g xs) ≡ map q (flat_map h xs)
each_named g h k q e [] = refl
each_named g h k q e (x ∷ xs) =
    map_append k (g x) (flat_map g xs)
    ∙ (ap (λ l. l ++ map k (flat_map g xs)) (e x)
    ∙ (ap (λ l. map q (h x) ++ l) (each_named g h k q e xs) ∙ sym (map_append q (h x) (flat_map h xs))))

both : {A : Type 0} {a b c d : List A} → a ≡ b → c ≡ d → a ++ c ≡ b ++ d
both e f = λ i. e i ++ f i

module _ (p : Path) (ready : IsPlaceable p) (control slices : Tracks) (control_tracks : AreControlTracks p control)
    (slice_tracks : AreSliceTracks p slices)
  where
    abbrev crow : ℕ → ℕ
    crow = slice_index control.row

    abbrev srow : ℕ → ℕ
    srow = slice_index slices.row

    abbrev pub bands : Bands
    bands = crossing.bands p ready.path (cols p ready control slices control_tracks slice_tracks)
        (rows p ready control slices control_tracks slice_tracks)
        (tops p ready control slices control_tracks slice_tracks)
        (counts p ready control slices control_tracks slice_tracks)
        (tracks_at p ready control slices control_tracks slice_tracks)

    abbrev pub y : Layout Across
    y = crossing.y p ready.path (cols p ready control slices control_tracks slice_tracks)
        (rows p ready control slices control_tracks slice_tracks)
        (tops p ready control slices control_tracks slice_tracks)
        (counts p ready control slices control_tracks slice_tracks)
        (tracks_at p ready control slices control_tracks slice_tracks)

    abbrev pub stub : ℕ → ℕ → Bool
    stub = crossing.stub p ready.path (cols p ready control slices control_tracks slice_tracks)
        (rows p ready control slices control_tracks slice_tracks)
        (tops p ready control slices control_tracks slice_tracks)
        (counts p ready control slices control_tracks slice_tracks)
        (tracks_at p ready control slices control_tracks slice_tracks)

    abbrev whole : Plan
    whole = path_laid p (columns_wanted p) control slices

    abbrev net : Wire Across → Net
    net = net_of Across y

    -- ---- segments

    slice_rows : (b : ℕ) → 1 ≤ b
        → map segment (band_segments b (slice_cols p) srow p.slice) ≡ map net (band_rows Across b (parts p b))
    slice_rows zero lo = absurd (omega (arith, lo))
    slice_rows (suc b) lo = rows_named Across bands (across_of p) ground_band (suc b)

    pub segments_named : map segment whole.segments ≡ map net (path_rows p)
    segments_named =
        ap (map segment) (append-nil (band_segments 0 (control_cols p) crow p.control ++ slice_segments p srow))
        ∙ (map_append segment (band_segments 0 (control_cols p) crow p.control) (slice_segments p srow)
        ∙ (both (rows_named Across bands (across_of p) ground_band 0)
        (flat_named (λ b. band_segments b (slice_cols p) srow p.slice) (λ b. band_rows Across b (parts p b)) segment net
        slice_rows 1 p.width (omega arith))
        ∙ sym (map_append net (band_rows Across 0 p.control)
        (flat_map (λ b. band_rows Across b (parts p b)) (slices_of p)))))

    -- ---- lines

    slice_columns_named : (b : ℕ) → 1 ≤ b
        → map line (band_lines b (slice_columns p) p.slice) ≡ map net (band_columns Across b (stub b) (parts p b))
    slice_columns_named zero lo = absurd (omega (arith, lo))
    slice_columns_named (suc b) lo = columns_named Across bands (across_of p) ground_band (suc b)

    lifts_named : (i : ℕ) (q : Option Lift) → map line (lift_lines p i q) ≡ map net (lift_columns p i q)
    lifts_named i None = refl
    lifts_named i (Some l) =
        ap (λ ns. line (across_of p (lift_line i)) ∷ ns)
        (map_named (λ b. across_of p (lift_stub i b)) (λ b. extra (lift_stub i b)) line net (λ b. refl) (others_of p l))

    pair_named : (g : Programmed) (b : ℕ) → 1 ≤ b
        → map line (upright (home (plain_slice p) g.net) L b b ∷ upright (home (plain_slice p) g.net) R b b ∷ [])
        ≡ map net (left (place b g.net) ∷ right (place b g.net) ∷ [])
    pair_named g zero lo = absurd (omega (arith, lo))
    pair_named g (suc b) lo = refl

    bits_named : (q : Option Programmed) → map line (bit_lines p q) ≡ map net (bit_columns p q)
    bits_named None = refl
    bits_named (Some g) =
        flat_named (λ b. upright (home (plain_slice p) g.net) L b b ∷ upright (home (plain_slice p) g.net) R b b ∷ [])
        (λ b. left (place b g.net) ∷ right (place b g.net) ∷ []) line net (pair_named g) 1 p.width (omega arith)

    abbrev trunk_wires : List (Wire Across)
    trunk_wires = trunk A ∷ trunk B ∷ trunk C ∷ []

    abbrev cast_wires : List (Wire Across)
    cast_wires = map (λ i. extra (cast_line i)) (range_with_len 0 (length p.casts))

    abbrev lift_wires : List (Wire Across)
    lift_wires = flat_map (λ i. lift_columns p i (slice_get p.lifts i)) (range_with_len 0 (length p.lifts))

    abbrev bit_wires : List (Wire Across)
    bit_wires = flat_map (λ i. bit_columns p (slice_get p.programs i)) (range_with_len 0 (length p.programs))

    abbrev chain_wires : List (Wire Across)
    chain_wires = flat_map (λ i. map (λ g. extra (chain_line i g)) (bands_of p)) (range_with_len 0 (length p.chains))

    abbrev joint_wires : List (Wire Across)
    joint_wires = trunk_wires ++ (cast_wires ++ (lift_wires ++ (bit_wires ++ chain_wires)))

    abbrev trunks : List Line
    trunks = trunk_line p A ∷ trunk_line p B ∷ trunk_line p C ∷ []

    abbrev casts : List Line
    casts = map (λ i. across_of p (cast_line i)) (range_with_len 0 (length p.casts))

    abbrev lifts : List Line
    lifts = flat_map (λ i. lift_lines p i (slice_get p.lifts i)) (range_with_len 0 (length p.lifts))

    abbrev bits : List Line
    bits = flat_map (λ i. bit_lines p (slice_get p.programs i)) (range_with_len 0 (length p.programs))

    abbrev chains : List Line
    chains = flat_map (λ i. map (λ g. across_of p (chain_line i g)) (bands_of p)) (range_with_len 0 (length p.chains))

    late_named : map line (bits ++ chains) ≡ map net (bit_wires ++ chain_wires)
    late_named =
        map_append line bits chains
        ∙ (both
        (each_named (λ i. bit_lines p (slice_get p.programs i)) (λ i. bit_columns p (slice_get p.programs i)) line net
        (λ i. bits_named (slice_get p.programs i)) (range_with_len 0 (length p.programs)))
        (each_named (λ i. map (λ g. across_of p (chain_line i g)) (bands_of p))
        (λ i. map (λ g. extra (chain_line i g)) (bands_of p)) line net
        (λ i. map_named (λ g. across_of p (chain_line i g)) (λ g. extra (chain_line i g)) line net (λ g. refl)
        (bands_of p)) (range_with_len 0 (length p.chains)))
        ∙ sym (map_append net bit_wires chain_wires))

    joints_named : map line (joint_lines p) ≡ map net joint_wires
    joints_named =
        ap (λ ns. map line trunks ++ ns)
        (map_append line casts (lifts ++ (bits ++ chains))
        ∙ (both (map_named (λ i. across_of p (cast_line i)) (λ i. extra (cast_line i)) line net (λ i. refl)
        (range_with_len 0 (length p.casts)))
        (map_append line lifts (bits ++ chains)
        ∙ (both
        (each_named (λ i. lift_lines p i (slice_get p.lifts i)) (λ i. lift_columns p i (slice_get p.lifts i)) line net
        (λ i. lifts_named i (slice_get p.lifts i)) (range_with_len 0 (length p.lifts))) late_named
        ∙ sym (map_append net lift_wires (bit_wires ++ chain_wires))))
        ∙ sym (map_append net cast_wires (lift_wires ++ (bit_wires ++ chain_wires)))))

    abbrev slice_wires : List (Wire Across)
    slice_wires = flat_map (λ b. band_columns Across b (stub b) (parts p b)) (slices_of p)

    pub lines_named : map line whole.lines ≡ map net (path_columns p stub)
    lines_named =
        ap (map line)
        (append-nil (band_lines 0 (control_columns p) p.control ++ (slice_lines p ++ joint_lines p)))
        ∙ (map_append line (band_lines 0 (control_columns p) p.control) (slice_lines p ++ joint_lines p)
        ∙ (both (columns_named Across bands (across_of p) ground_band 0)
        (map_append line (slice_lines p) (joint_lines p)
        ∙ (both
        (flat_named (λ b. band_lines b (slice_columns p) p.slice) (λ b. band_columns Across b (stub b) (parts p b)) line
        net slice_columns_named 1 p.width (omega arith)) joints_named
        ∙ sym (map_append net slice_wires joint_wires)))
        ∙ (sym (map_append net (band_columns Across 0 (stub 0) p.control) (slice_wires ++ joint_wires))
        ∙ ap (map net)
        (sym (append_assoc (band_columns Across 0 (stub 0) p.control) slice_wires
        joint_wires)))))
