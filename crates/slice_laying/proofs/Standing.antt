-- The taps of the lines that join bands stand where a line and a segment cross.
use Rattle.std.proofs.Common.{◌≡◌, ◌⊎◌, inl, inr, ℕ, suc, ◌<◌, ◌≤◌, ◌+◌, Some, Bool, true, false}
use Rattle.std.proofs.Common.{cond, List, [], ◌∷◌, ◌++◌, length, map, refl, sym, subst, arith, not}
use Rattle.std.specs.Prelude.{slice_get, flat_map, max, ◌==◌, ◌≢◌}
use Rattle.std.specs.List.{range_with_len}
use Rattle.std.proofs.lemmas.Option.{slice_get_within}
use Rattle.mp_base.proofs.Members.{Member, member_contains, map_member, filter_member, range_has, append_left}
use Rattle.mp_base.proofs.Members.{append_right, flat_member}
use Rattle.tile_cells.specs.declared.tile.Tile.TheVariants.{TapL, TapR, PullUp}
use Rattle.fabric.specs.declared.thing.Side.{Side}
use Rattle.fabric.specs.declared.thing.Side.TheVariants.{L, R}
use Rattle.fabric.specs.declared.thing.Segment.{Segment}
use Rattle.fabric.specs.declared.thing.Line.{Line}
use Rattle.fabric.specs.Plan.{Plan, IsMark, Passes, Crosses, rows_of}
use Rattle.nor_net.specs.declared.net.Phase.{Phase}
use Rattle.nor_net.specs.declared.net.Phase.TheVariants.{A, B, C}
use Rattle.nor_net.specs.declared.net.Part.TheVariants.{Input}
use Rattle.array_form.specs.Homes.{home, phase_number}
use Rattle.array_form.specs.Laying.{AreTracks, band_segment}
use Rattle.array_form.specs.Lists.{mark, tap_tile, upright}
use Rattle.array_form.specs.Named.{tap}
use Rattle.array_form.specs.Wires.{row, beat, left, right, trunk, extra, to_ground, place}
use Rattle.array_form.proofs.Phases.{phase_small}
use Rattle.slice_form.specs.Joints.{trunk_line, lift_lines, bit_lines, joint_lines}
use Rattle.slice_form.specs.Path.{Path, Carry, Cast, Lift, Programmed, IsPath, IsSlice, parts}
use Rattle.slice_form.specs.PathLists.{bands_of, slices_of, others_of}
use Rattle.slice_form.specs.PathWires.{cast_line, lift_line, lift_stub, chain_line, side_of, below, above}
use Rattle.slice_form.specs.PathWires.{open_gap, of_phase, of_cast, of_cast_slice, of_lift, of_lift_slice, of_lift_stub}
use Rattle.slice_form.specs.PathWires.{of_below, of_above, of_open, of_one, of_zero}
use Rattle.slice_form.specs.Slices.{across_of, cast_column, chain_column, columns_of, lift_column, plain_slice}
use Rattle.slice_form.proofs.Crossing.{path_crossing}
use Rattle.slice_form.proofs.Lists.{in_slices, same_not}

-- each has a number
pub numbered : {A : Type 0} (xs : List A) (i : ℕ) (x : A) → slice_get xs i ≡ Some x
    → Member (range_with_len 0 (length xs)) i
numbered xs i x h =
    range_has 0 (length xs) i (omega arith) (let w = slice_get_within xs i x h in omega (arith, w))

-- ---- the lines that join bands are listed

module _ (p : Path) where
  abbrev trunks : List Line
  trunks = trunk_line p A ∷ trunk_line p B ∷ trunk_line p C ∷ []

  abbrev casts : List Line
  casts = map (λ i. across_of p (cast_line i)) (range_with_len 0 (length p.casts))

  abbrev lifts : List Line
  lifts = flat_map (λ i. lift_lines p i (slice_get p.lifts i)) (range_with_len 0 (length p.lifts))

  abbrev bits : List Line
  bits = flat_map (λ i. bit_lines p (slice_get p.programs i)) (range_with_len 0 (length p.programs))

  abbrev chains : List Line
  chains = flat_map (λ i. map (λ g. across_of p (chain_line i g)) (bands_of p)) (range_with_len 0 (length p.chains))

  among_trunks : (l : Line) → Member trunks l → Member (joint_lines p) l
  among_trunks l m = append_left trunks (casts ++ (lifts ++ (bits ++ chains))) l m

  among_casts : (l : Line) → Member casts l → Member (joint_lines p) l
  among_casts l m = append_right trunks (casts ++ (lifts ++ (bits ++ chains))) l
      (append_left casts (lifts ++ (bits ++ chains)) l m)

  among_lifts : (l : Line) → Member lifts l → Member (joint_lines p) l
  among_lifts l m = append_right trunks (casts ++ (lifts ++ (bits ++ chains))) l
      (append_right casts (lifts ++ (bits ++ chains)) l (append_left lifts (bits ++ chains) l m))

  among_bits : (l : Line) → Member bits l → Member (joint_lines p) l
  among_bits l m = append_right trunks (casts ++ (lifts ++ (bits ++ chains))) l
      (append_right casts (lifts ++ (bits ++ chains)) l
      (append_right lifts (bits ++ chains) l (append_left bits chains l m)))

  among_chains : (l : Line) → Member chains l → Member (joint_lines p) l
  among_chains l m = append_right trunks (casts ++ (lifts ++ (bits ++ chains))) l
      (append_right casts (lifts ++ (bits ++ chains)) l
      (append_right lifts (bits ++ chains) l (append_right bits chains l m)))

  has_trunk : (ph : Phase) → Member (joint_lines p) (upright (1 + phase_number ph) L 0 p.width)
  has_trunk A = among_trunks (upright 1 L 0 p.width) (inl refl)
  has_trunk B = among_trunks (upright 2 L 0 p.width) (inr (inl refl))
  has_trunk C = among_trunks (upright 3 L 0 p.width) (inr (inr (inl refl)))

  has_cast : (i : ℕ) (c : Cast) → slice_get p.casts i ≡ Some c → Member (joint_lines p) (across_of p (cast_line i))
  has_cast i c h =
      among_casts (across_of p (cast_line i))
      (map_member (λ i. across_of p (cast_line i)) (range_with_len 0 (length p.casts)) i (numbered p.casts i c h))

  in_lift : (i : ℕ) (l : Lift) (x : Line) → slice_get p.lifts i ≡ Some l → Member (lift_lines p i (Some l)) x
      → Member (joint_lines p) x
  in_lift i l x h m =
      among_lifts x
      (flat_member (λ i. lift_lines p i (slice_get p.lifts i)) (range_with_len 0 (length p.lifts)) i x
      (numbered p.lifts i l h) (subst (λ q. Member (lift_lines p i q) x) (sym h) m))

  has_lift : (i : ℕ) (l : Lift) → slice_get p.lifts i ≡ Some l → Member (joint_lines p) (across_of p (lift_line i))
  has_lift i l h = in_lift i l (across_of p (lift_line i)) h (inl refl)

  has_stub : (i : ℕ) (l : Lift) (b : ℕ) → slice_get p.lifts i ≡ Some l → IsSlice p b → b ≢ suc l.slice
      → Member (joint_lines p) (across_of p (lift_stub i b))
  has_stub i l b h s d =
      in_lift i l (across_of p (lift_stub i b)) h
      (inr (map_member (λ b. across_of p (lift_stub i b)) (others_of p l) b
      (filter_member (λ b. not (b == suc l.slice)) (slices_of p) b (in_slices p (λ b n. false) b s)
      (same_not p (λ b n. false) b (suc l.slice) d))))

  abbrev pair_of : Programmed → ℕ → List Line
  pair_of g b = upright (home (plain_slice p) g.net) L b b ∷ upright (home (plain_slice p) g.net) R b b ∷ []

  has_bit : (i : ℕ) (g : Programmed) (b : ℕ) (x : Line) → slice_get p.programs i ≡ Some g → IsSlice p b
      → Member (pair_of g b) x → Member (joint_lines p) x
  has_bit i g b x h s m =
      among_bits x
      (flat_member (λ i. bit_lines p (slice_get p.programs i)) (range_with_len 0 (length p.programs)) i x
      (numbered p.programs i g h)
      (subst (λ q. Member (bit_lines p q) x) (sym h)
      (flat_member (pair_of g) (slices_of p) b x (in_slices p (λ b n. false) b s) m)))

  has_chain : (i : ℕ) (c : Carry) (g : ℕ) → slice_get p.chains i ≡ Some c → g ≤ p.width
      → Member (joint_lines p) (across_of p (chain_line i g))
  has_chain i c g h le =
      among_chains (across_of p (chain_line i g))
      (flat_member (λ i. map (λ g. across_of p (chain_line i g)) (bands_of p)) (range_with_len 0 (length p.chains)) i
      (across_of p (chain_line i g)) (numbered p.chains i c h)
      (map_member (λ g. across_of p (chain_line i g)) (bands_of p) g
      (range_has 0 (suc p.width) g (omega arith) (omega (arith, le)))))

-- ---- and their taps stand

-- a tap of a line and a segment of a fabric, or of a line and the row of ground
pub tap_stands : (f : Plan) (side : Side) (l : Line) (s : Segment) (b r c : ℕ) → Member f.lines l
    → Member f.segments s → Passes l side b c → Crosses s b r c → IsMark f (mark (tap_tile side) b r c)
tap_stands f L l s b r c m k passes crosses = (
  record { line = l; among = member_contains f.lines l m; passes = passes },
  inr (record { segment = s; among = member_contains f.segments s k; crosses = crosses }),
)
tap_stands f R l s b r c m k passes crosses = (
  record { line = l; among = member_contains f.lines l m; passes = passes },
  inr (record { segment = s; among = member_contains f.segments s k; crosses = crosses }),
)

pub ground_stands : (f : Plan) (side : Side) (l : Line) (b c : ℕ) → Member f.lines l → Passes l side b c
    → IsMark f (mark (tap_tile side) b 0 c)
ground_stands f L l b c m passes =
    (record { line = l; among = member_contains f.lines l m; passes = passes }, inl refl)
ground_stands f R l b c m passes =
    (record { line = l; among = member_contains f.lines l m; passes = passes }, inl refl)

module _ (p : Path) (path : IsPath p) (cols : ℕ → ℕ → List ℕ) (row_of : ℕ → ℕ → ℕ) (rows : ℕ → ℕ) (k : ℕ → ℕ)
    (tracks : (b : ℕ) → b ≤ p.width → AreTracks (columns_of p b) (parts p b) (cols b) (row_of b) (k b))
    (f : Plan) (lines : (l : Line) → Member (joint_lines p) l → Member f.lines l) (In : ℕ → Type 0)
    (segments : (b n : ℕ) → b ≤ p.width → In b → n < length (parts p b) + 3
    → Member f.segments (band_segment b (cols b) (row_of b) n))
  where
    above_ground : {n : ℕ} {P Q : Type 0} → (suc n ≡ 0) × P ⊎ Q → Q
    above_ground (inl e) = absurd (let z = e.0 in omega (arith, z))
    above_ground (inr q) = q

    pub trunk_stands : (b : ℕ) (ph : Phase) → b ≤ p.width → In b
        → IsMark f (mark TapL b (suc (row_of b (length (parts p b) + phase_number ph))) (1 + phase_number ph))
    trunk_stands b ph le i =
        let n = length (parts p b) + phase_number ph in
        let x = path_crossing p path cols row_of rows k tracks (tap L (trunk ph) (beat b ph)) (of_phase b ph le) in
        tap_stands f L (upright (1 + phase_number ph) L 0 p.width) (band_segment b (cols b) (row_of b) n) b
        (suc (row_of b n)) (1 + phase_number ph) (lines _ (has_trunk p ph))
        (segments b n le i (let l = phase_small ph in omega (arith, l))) x.0 (above_ground x.1)

    pub cast_stands : (i : ℕ) (c : Cast) → slice_get p.casts i ≡ Some c → In 0
        → IsMark f (mark TapL 0 (suc (row_of 0 c.control)) (cast_column i))
    cast_stands i c h z =
        let x = path_crossing p path cols row_of rows k tracks (tap L (extra (cast_line i)) (row (place 0 c.control)))
        (of_cast i c h) in
        tap_stands f L (across_of p (cast_line i)) (band_segment 0 (cols 0) (row_of 0) c.control) 0
        (suc (row_of 0 c.control)) (cast_column i) (lines _ (has_cast p i c h))
        (segments 0 c.control (omega arith) z (let l = (path.casts i c h).0 in omega (arith, l))) x.0
        (above_ground x.1)

    pub slice_cast_stands : (i : ℕ) (c : Cast) (b : ℕ) → slice_get p.casts i ≡ Some c → IsSlice p (suc b)
        → In (suc b) → IsMark f (mark TapL (suc b) (suc (row_of (suc b) c.slice)) (cast_column i))
    slice_cast_stands i c b h s z =
        let x = path_crossing p path cols row_of rows k tracks
        (tap L (extra (cast_line i)) (row (place (suc b) c.slice))) (of_cast_slice i c (suc b) h s) in
        tap_stands f L (across_of p (cast_line i)) (band_segment (suc b) (cols (suc b)) (row_of (suc b)) c.slice)
        (suc b)
        (suc (row_of (suc b) c.slice)) (cast_column i) (lines _ (has_cast p i c h))
        (segments (suc b) c.slice s.1 z
        (let l = slice_get_within p.slice c.slice Input (path.casts i c h).1 in omega (arith, l))) x.0
        (above_ground x.1)

    pub lift_stands : (i : ℕ) (l : Lift) → slice_get p.lifts i ≡ Some l → In 0
        → IsMark f (mark TapL 0 (suc (row_of 0 l.control)) (lift_column p i))
    lift_stands i l h z =
        let x = path_crossing p path cols row_of rows k tracks (tap L (extra (lift_line i)) (row (place 0 l.control)))
        (of_lift i l h) in
        tap_stands f L (across_of p (lift_line i)) (band_segment 0 (cols 0) (row_of 0) l.control) 0
        (suc (row_of 0 l.control)) (lift_column p i) (lines _ (has_lift p i l h))
        (segments 0 l.control (omega arith) z
        (let w = slice_get_within p.control l.control Input (path.lifts i l h).2 in omega (arith, w))) x.0
        (above_ground x.1)

    pub slice_lift_stands : (i : ℕ) (l : Lift) → slice_get p.lifts i ≡ Some l → In (suc l.slice)
        → IsMark f (mark TapL (suc l.slice) (suc (row_of (suc l.slice) l.start)) (lift_column p i))
    slice_lift_stands i l h z =
        let b = suc l.slice in
        let x = path_crossing p path cols row_of rows k tracks
        (tap L (extra (lift_line i)) (row (place (suc l.slice) l.start))) (of_lift_slice i l h) in
        tap_stands f L (across_of p (lift_line i)) (band_segment b (cols b) (row_of b) l.start) b
        (suc (row_of b l.start)) (lift_column p i) (lines _ (has_lift p i l h))
        (segments b l.start (let w = (path.lifts i l h).0 in omega (arith, w)) z
        (let w = (path.lifts i l h).1 in omega (arith, w))) x.0 (above_ground x.1)

    pub stub_stands : (i : ℕ) (l : Lift) (b : ℕ) → slice_get p.lifts i ≡ Some l → IsSlice p (suc b)
        → suc b ≢ suc l.slice → In (suc b)
        → IsMark f (mark TapR (suc b) (suc (row_of (suc b) l.start)) (lift_column p i))
    stub_stands i l b h s d z =
        let x = path_crossing p path cols row_of rows k tracks
        (tap R (extra (lift_stub i (suc b))) (row (place (suc b) l.start))) (of_lift_stub i l (suc b) h s d) in
        tap_stands f R (across_of p (lift_stub i (suc b))) (band_segment (suc b) (cols (suc b)) (row_of
        (suc b)) l.start)
        (suc b) (suc (row_of (suc b) l.start)) (lift_column p i) (lines _ (has_stub p i l (suc b) h s d))
        (segments (suc b) l.start s.1 z (let w = (path.lifts i l h).1 in omega (arith, w))) x.0 (above_ground x.1)

    inside : (i : ℕ) (c : Carry) (t : Bool) → slice_get p.chains i ≡ Some c
        → (cond t c.to c.start < length p.slice) × (cond t c.start c.to < length p.slice)
    inside i c true h = (slice_get_within p.slice c.to Input (path.chains i c h).1, (path.chains i c h).0)
    inside i c false h = ((path.chains i c h).0, slice_get_within p.slice c.to Input (path.chains i c h).1)

    pub below_stands : (i : ℕ) (c : Carry) (g : ℕ) → slice_get p.chains i ≡ Some c → g < p.width → In (suc g)
        → IsMark f (mark (tap_tile (side_of g)) (suc g) (suc (row_of (suc g) (below c)))
        (chain_column p (slice_get p.chains i)))
    below_stands i c g h lt z =
        let b = suc g in
        let x = path_crossing p path cols row_of rows k tracks
        (tap (side_of g) (extra (chain_line i g)) (row (place (suc g) (below c)))) (of_below i c g h lt) in
        tap_stands f (side_of g) (across_of p (chain_line i g)) (band_segment b (cols b) (row_of b) (below c)) b
        (suc (row_of b (below c))) (chain_column p (slice_get p.chains i))
        (lines _ (has_chain p i c g h (omega (arith, lt))))
        (segments b (below c) (omega (arith, lt)) z (let w = (inside i c c.up h).0 in omega (arith, w))) x.0
        (above_ground x.1)

    pub above_stands : (i : ℕ) (c : Carry) (g : ℕ) → slice_get p.chains i ≡ Some c → suc g ≤ p.width → In (suc g)
        → IsMark f (mark (tap_tile (side_of (suc g))) (suc g) (suc (row_of (suc g) (above c)))
        (chain_column p (slice_get p.chains i)))
    above_stands i c g h le z =
        let b = suc g in
        let x = path_crossing p path cols row_of rows k tracks
        (tap (side_of (suc g)) (extra (chain_line i (suc g))) (row (place (suc g) (above c)))) (of_above i c g h le) in
        tap_stands f (side_of (suc g)) (across_of p (chain_line i (suc g))) (band_segment b (cols b) (row_of b)
        (above c))
        b (suc (row_of b (above c))) (chain_column p (slice_get p.chains i)) (lines _ (has_chain p i c (suc g) h le))
        (segments b (above c) le z (let w = (inside i c c.up h).1 in omega (arith, w))) x.0 (above_ground x.1)

    pub open_stands : (i : ℕ) (c : Carry) → slice_get p.chains i ≡ Some c
        → IsMark f (mark (tap_tile (side_of (open_gap p c))) (max 1 (open_gap p c)) 0
        (chain_column p (slice_get p.chains i)))
    open_stands i c h =
        let x = path_crossing p path cols row_of rows k tracks
        (tap (side_of (open_gap p c)) (extra (chain_line i (open_gap p c))) to_ground) (of_open i c h) in
        ground_stands f (side_of (open_gap p c)) (across_of p (chain_line i (open_gap p c))) (max 1 (open_gap p c))
        (chain_column p (slice_get p.chains i)) (lines _ (has_chain p i c (open_gap p c) h (gap_in c.up))) x.0
      where
        gap_in : (t : Bool) → cond t 0 p.width ≤ p.width
        gap_in true = omega arith
        gap_in false = omega arith

    passes : (c : ℕ) (side : Side) (b : ℕ) → Passes (upright c side b b) side b c
    passes c side b = record { column = refl; at_side = refl; first = omega arith; last = omega arith }

    pub bit_ground_stands : (i : ℕ) (g : Programmed) (b : ℕ) → slice_get p.programs i ≡ Some g → suc b ≤ p.width
        → IsMark f (mark TapR (suc b) 0 (home (plain_slice p) g.net))
    bit_ground_stands i g b h le =
        ground_stands f R (upright (home (plain_slice p) g.net) R (suc b) (suc b)) (suc b) (home (plain_slice p) g.net)
        (lines _ (has_bit p i g (suc b) _ h (omega arith, le) (inr (inl refl))))
        (passes (home (plain_slice p) g.net) R (suc b))

    pub bit_pull_stands : (i : ℕ) (g : Programmed) (b top : ℕ) → slice_get p.programs i ≡ Some g → suc b ≤ p.width
        → top ≡ rows_of f (suc b) → IsMark f (mark PullUp (suc b) top (home (plain_slice p) g.net))
    bit_pull_stands i g b top h le e = (
      e,
      (
        upright (home (plain_slice p) g.net) L (suc b) (suc b),
        member_contains f.lines (upright (home (plain_slice p) g.net) L (suc b) (suc b))
            (lines _ (has_bit p i g (suc b) _ h (omega arith, le) (inl refl))),
        passes (home (plain_slice p) g.net) L (suc b),
        refl,
      ),
    )

    net_in : (i : ℕ) (g : Programmed) → slice_get p.programs i ≡ Some g → g.net < length p.slice + 3
    net_in i g h = let w = slice_get_within p.slice g.net Input (path.programs i g h).0 in omega (arith, w)

    pub one_stands : (i : ℕ) (g : Programmed) (b : ℕ) → slice_get p.programs i ≡ Some g → suc b ≤ p.width
        → slice_get g.bits b ≡ Some true → In (suc b)
        → IsMark f (mark TapL (suc b) (suc (row_of (suc b) g.net)) (home (plain_slice p) g.net))
    one_stands i g b h le bit z =
        let x = path_crossing p path cols row_of rows k tracks
        (tap L (left (place (suc b) g.net)) (row (place (suc b) g.net))) (of_one i g b h le bit) in
        tap_stands f L (upright (home (plain_slice p) g.net) L (suc b) (suc b))
        (band_segment (suc b) (cols (suc b)) (row_of (suc b)) g.net) (suc b) (suc (row_of (suc b) g.net))
        (home (plain_slice p) g.net) (lines _ (has_bit p i g (suc b) _ h (omega arith, le) (inl refl)))
        (segments (suc b) g.net le z (net_in i g h)) x.0 (above_ground x.1)

    pub zero_stands : (i : ℕ) (g : Programmed) (b : ℕ) → slice_get p.programs i ≡ Some g → suc b ≤ p.width
        → slice_get g.bits b ≡ Some false → In (suc b)
        → IsMark f (mark TapR (suc b) (suc (row_of (suc b) g.net)) (home (plain_slice p) g.net))
    zero_stands i g b h le bit z =
        let x = path_crossing p path cols row_of rows k tracks
        (tap R (right (place (suc b) g.net)) (row (place (suc b) g.net))) (of_zero i g b h le bit) in
        tap_stands f R (upright (home (plain_slice p) g.net) R (suc b) (suc b))
        (band_segment (suc b) (cols (suc b)) (row_of (suc b)) g.net) (suc b) (suc (row_of (suc b) g.net))
        (home (plain_slice p) g.net) (lines _ (has_bit p i g (suc b) _ h (omega arith, le) (inr (inl refl))))
        (segments (suc b) g.net le z (net_in i g h)) x.0 (above_ground x.1)
