-- Each tie of a placed path stands where its wires cross.
use Rattle.std.proofs.Common.{◌≡◌, inl, inr, ℕ, zero, suc, ◌<◌, ◌≤◌, ◌+◌, ◌==◌, Some, Bool, true, false, cond, not}
use Rattle.std.proofs.Common.{List, [], ◌∷◌, ◌++◌, length, refl, sym, ◌∙◌, ap, subst, arith}
use Rattle.std.specs.Prelude.{slice_get, ◌||◌, min, max}
use Rattle.std.specs.List.{list_any}
use Rattle.std.proofs.lemmas.Option.{slice_get_within, none-some, same_Some}
use Rattle.mp_base.proofs.Members.{Member, append_left, append_right}
use Rattle.std.proofs.lemmas.Map.Keys.{any_passes_from_place}
use Rattle.std.proofs.lemmas.Bool.{or_right, or_left}
use Rattle.fabric.specs.declared.thing.Side.{Side}
use Rattle.fabric.specs.declared.thing.Side.TheVariants.{L, R}
use Rattle.fabric.specs.Plan.{Passes, Crosses}
use Rattle.nor_net.specs.declared.net.Part.{Part}
use Rattle.nor_net.specs.declared.net.Part.TheVariants.{Input, Gate, Latch}
use Rattle.array_form.specs.Named.{Tie}
use Rattle.array_form.specs.Wires.{Wire}
use Rattle.array_form.specs.Lists.{Layout, Crossing, upright}
use Rattle.array_form.specs.Homes.{home, marks, phase_marks, phase_number}
use Rattle.array_form.specs.Laying.{AreTracks, band_segment}
use Rattle.array_form.specs.BandLayout.{Bands, layout}
use Rattle.array_form.proofs.Listing.{same_to}
use Rattle.array_form.proofs.Homes.{least_below, greatest_above, own_mark, more_mark}
use Rattle.array_form.proofs.Bands.{net_crossing}
use Rattle.slice_form.specs.Path.{Path, Carry, Cast, Lift, Programmed, parts, IsSlice, IsPath}
use Rattle.slice_form.specs.PathWires.{Across, side_of, below, above, open_gap, PathTie, of_net, of_phase, of_cast}
use Rattle.slice_form.specs.PathWires.{of_cast_slice, of_lift, of_lift_slice, of_lift_stub, of_below, of_above, of_open}
use Rattle.slice_form.specs.PathWires.{of_bit_ground, of_bit_pull, of_one, of_zero}
use Rattle.slice_form.specs.Slices.{cast_columns, lift_columns_of, chain_starts, control_stub, control_columns}
use Rattle.slice_form.specs.Slices.{slice_stub, slice_homed, plain_slice, slice_columns, columns_of, across_of}
use Rattle.slice_form.specs.Slices.{control_joints, slice_joints, is_west}
use Rattle.slice_form.specs.Slices.{ground_band, cast_column, lift_column, chain_column, lift_top}
use Rattle.array_form.specs.Place.{part_is, is_input, west_column}

pub cast_has : (test : Cast → Bool) (at : ℕ) (cs : List Cast) (i : ℕ) (c : Cast) → slice_get cs i ≡ Some c
    → test c ≡ true → Member (cast_columns test at cs) (at + i)
cast_has test at [] i c h e = absurd (cc h)
cast_has test at (a ∷ cs) zero c h e =
    let same : a ≡ c = cc in let z : at ≡ at + 0 = omega arith in
    append_left (cond (test a) (at ∷ []) []) (cast_columns test (suc at) cs) (at + 0)
    (subst (λ t. Member (cond t (at ∷ []) []) (at + 0)) (sym (ap test same ∙ e)) (inl z))
cast_has test at (a ∷ cs) (suc i) c h e =
    let z : suc at + i ≡ at + suc i = omega arith in
    append_right (cond (test a) (at ∷ []) []) (cast_columns test (suc at) cs) (at + suc i)
    (subst (Member (cast_columns test (suc at) cs)) z (cast_has test (suc at) cs i c h e))

pub lift_has : (test : Lift → Bool) (at : ℕ) (cs : List Lift) (i : ℕ) (c : Lift) → slice_get cs i ≡ Some c
    → test c ≡ true → Member (lift_columns_of test at cs) (at + i)
lift_has test at [] i c h e = absurd (cc h)
lift_has test at (a ∷ cs) zero c h e =
    let same : a ≡ c = cc in let z : at ≡ at + 0 = omega arith in
    append_left (cond (test a) (at ∷ []) []) (lift_columns_of test (suc at) cs) (at + 0)
    (subst (λ t. Member (cond t (at ∷ []) []) (at + 0)) (sym (ap test same ∙ e)) (inl z))
lift_has test at (a ∷ cs) (suc i) c h e =
    let z : suc at + i ≡ at + suc i = omega arith in
    append_right (cond (test a) (at ∷ []) []) (lift_columns_of test (suc at) cs) (at + suc i)
    (subst (Member (lift_columns_of test (suc at) cs)) z (lift_has test (suc at) cs i c h e))

pub start_has : (at : ℕ → ℕ) (cs : List Carry) (i : ℕ) (c : Carry) (n : ℕ) → slice_get cs i ≡ Some c → c.start ≡ n
    → Member (chain_starts at n cs) (at c.to)
start_has at [] i c n h e = absurd (none-some c h)
start_has at (a ∷ cs) zero c n h e =
    append_left (cond (a.start == n) (at a.to ∷ []) []) (chain_starts at n cs) (at c.to)
    (subst (λ t. Member (cond t (at a.to ∷ []) []) (at c.to))
    (sym (same_to a.start n (ap (λ (z : Carry). z.start) (same_Some a c h) ∙ e)))
    (inl (ap (λ (z : Carry). at z.to) (same_Some a c h))))
start_has at (a ∷ cs) (suc i) c n h e =
    append_right (cond (a.start == n) (at a.to ∷ []) []) (chain_starts at n cs) (at c.to)
    (start_has at cs i c n h e)

module _ (p : Path) where
  pub homed_end : (i : ℕ) (c : Carry) → slice_get p.chains i ≡ Some c → slice_homed p c.to ≡ true
  homed_end i c h =
      or_right (part_is (λ z. not (is_input z)) (slice_get p.slice c.to))
      (list_any (λ (a : Carry). a.to == c.to) p.chains ||
      (list_any (λ (g : Programmed). g.net == c.to) p.programs || slice_stub p c.to))
      (or_left (list_any (λ (a : Carry). a.to == c.to) p.chains)
      (list_any (λ (g : Programmed). g.net == c.to) p.programs || slice_stub p c.to)
      (any_passes_from_place (λ (a : Carry). a.to == c.to) p.chains i c h (same_to c.to c.to refl)))

  pub homed_bit : (i : ℕ) (g : Programmed) → slice_get p.programs i ≡ Some g → slice_homed p g.net ≡ true
  homed_bit i g h =
      or_right (part_is (λ z. not (is_input z)) (slice_get p.slice g.net))
      (list_any (λ (a : Carry). a.to == g.net) p.chains ||
      (list_any (λ (a : Programmed). a.net == g.net) p.programs || slice_stub p g.net))
      (or_right (list_any (λ (a : Carry). a.to == g.net) p.chains)
      (list_any (λ (a : Programmed). a.net == g.net) p.programs || slice_stub p g.net)
      (or_left (list_any (λ (a : Programmed). a.net == g.net) p.programs) (slice_stub p g.net)
      (any_passes_from_place (λ (a : Programmed). a.net == g.net) p.programs i g h (same_to g.net g.net refl))))

  -- a joint's column is among those of its net
  pub control_joint : (n c : ℕ) → Member (control_joints p n) c → Member (marks (control_columns p) p.control n) c
  control_joint n c m = more_mark (control_columns p) p.control n c
      (append_left (control_joints p n) (west_column (is_west p.west_signals n)) c m)

  pub slice_joint : (n c : ℕ) → Member (slice_joints p n) c → Member (marks (slice_columns p) p.slice n) c
  slice_joint n c m = more_mark (slice_columns p) p.slice n c
      (append_left (slice_joints p n) (west_column (is_west p.west_words n)) c m)

module _ (p : Path) (path : IsPath p) (cols : ℕ → ℕ → List ℕ) (row_of : ℕ → ℕ → ℕ) (rows : ℕ → ℕ) (k : ℕ → ℕ)
    (tracks : (b : ℕ) → b ≤ p.width → AreTracks (columns_of p b) (parts p b) (cols b) (row_of b) (k b)) where
  abbrev pub bands : Bands
  bands = record {
    columns = columns_of p;
    parts = parts p;
    cols = cols;
    row = row_of;
    rows = rows;
    top =
        p.width;
    trunk_at = λ ph. 1 + phase_number ph;
  }

  abbrev pub y : Layout Across
  y = layout Across bands (across_of p) ground_band

  abbrev pub stub : ℕ → ℕ → Bool
  stub b n = (columns_of p b).stub n

  crosses : (b j c : ℕ) → Member (cols b j) c → Crosses (band_segment b (cols b) (row_of b) j) b (suc (row_of b j)) c
  crosses b j c m = record {
    band = refl;
    row = refl;
    first = least_below (cols b j) c m;
    last =
        greatest_above (cols b j) c m;
  }

  -- a net's marks in the control, and in a slice
  net_cols : (b n c : ℕ) → b ≤ p.width → n < length (parts p b) → Member (marks (columns_of p b) (parts p b) n) c
      → Member (cols b n) c
  net_cols b n c i h m = subst (λ z. Member z c) (sym ((tracks b i).nets n h)) m

  homed_gate : (b n : ℕ) (q : Part) → is_input q ≡ false → slice_get (parts p b) n ≡ Some q
      → (columns_of p b).homed n ≡ true
  homed_gate zero n q e h = or_left (part_is (λ z. not (is_input z)) (slice_get p.control n)) (control_stub p n)
      (ap (part_is (λ z. not (is_input z))) h ∙ ap not e)
  homed_gate (suc b) n q e h =
      or_left (part_is (λ z. not (is_input z)) (slice_get p.slice n))
      (list_any (λ (c : Carry). c.to == n) p.chains ||
      (list_any (λ (g : Programmed). g.net == n) p.programs || slice_stub p n))
      (ap (part_is (λ z. not (is_input z))) h ∙ ap not e)

  homed_stub : (b n : ℕ) → (columns_of p b).stub n ≡ true → (columns_of p b).homed n ≡ true
  homed_stub zero n e = or_right (part_is (λ z. not (is_input z)) (slice_get p.control n)) (control_stub p n) e
  homed_stub (suc b) n e =
      or_right (part_is (λ z. not (is_input z)) (slice_get p.slice n))
      (list_any (λ (c : Carry). c.to == n) p.chains ||
      (list_any (λ (g : Programmed). g.net == n) p.programs || slice_stub p n))
      (or_right (list_any (λ (c : Carry). c.to == n) p.chains)
      (list_any (λ (g : Programmed). g.net == n) p.programs || slice_stub p n)
      (or_right (list_any (λ (g : Programmed). g.net == n) p.programs) (slice_stub p n) e))

  -- further marks
  cast_control_col : (i : ℕ) (c : Cast) → slice_get p.casts i ≡ Some c → Member (cols 0 c.control) (cast_column i)
  cast_control_col i c h = net_cols 0 c.control (4 + i) (omega arith) (path.casts i c h).0
      (control_joint p c.control (4 + i)
      (append_left (cast_columns (λ a. a.control == c.control) 4 p.casts)
      (lift_columns_of (λ l. l.control == c.control) (4 + length p.casts) p.lifts) (4 + i)
      (cast_has (λ a. a.control == c.control) 4 p.casts i c h (same_to c.control c.control refl))))

  lift_control_col : (i : ℕ) (l : Lift) → slice_get p.lifts i ≡ Some l → Member (cols 0 l.control) (lift_column p i)
  lift_control_col i l h = net_cols 0 l.control (lift_column p i) (omega arith)
      (slice_get_within p.control l.control Input (path.lifts i l h).2)
      (control_joint p l.control (lift_column p i)
      (append_right (cast_columns (λ a. a.control == l.control) 4 p.casts)
      (lift_columns_of (λ a. a.control == l.control) (4 + length p.casts) p.lifts) (lift_column p i)
      (lift_has (λ a. a.control == l.control) (4 + length p.casts) p.lifts i l h (same_to l.control l.control refl))))

  slice_more : (b n c : ℕ) → IsSlice p b → n < length p.slice → Member (slice_joints p n) c → Member (cols b n) c
  slice_more zero n c s h m = absurd (omega (arith, s.0))
  slice_more (suc b) n c s h m = net_cols (suc b) n c s.1 h (slice_joint p n c m)

  slice_own : (b n : ℕ) → suc b ≤ p.width → n < length p.slice → slice_homed p n ≡ true
      → Member (cols (suc b) n) (home (plain_slice p) n)
  slice_own b n i h e = net_cols (suc b) n (home (plain_slice p) n) i h (own_mark (slice_columns p) p.slice n e)

  cast_slice_col : (i : ℕ) (c : Cast) (b : ℕ) → slice_get p.casts i ≡ Some c → IsSlice p b
      → Member (cols b c.slice) (cast_column i)
  cast_slice_col i c b h s = slice_more b c.slice (4 + i) s
      (slice_get_within p.slice c.slice Input (path.casts i c h).1)
      (append_left (cast_columns (λ a. a.slice == c.slice) 4 p.casts)
      (lift_columns_of (λ l. l.start == c.slice) (4 + length p.casts) p.lifts
      ++ chain_starts (home (plain_slice p)) c.slice p.chains) (4 + i)
      (cast_has (λ a. a.slice == c.slice) 4 p.casts i c h (same_to c.slice c.slice refl)))

  lift_slice_col : (i : ℕ) (l : Lift) (b : ℕ) → slice_get p.lifts i ≡ Some l → IsSlice p b
      → Member (cols b l.start) (lift_column p i)
  lift_slice_col i l b h s = slice_more b l.start (lift_column p i) s (path.lifts i l h).1
      (append_right (cast_columns (λ a. a.slice == l.start) 4 p.casts)
      (lift_columns_of (λ a. a.start == l.start) (4 + length p.casts) p.lifts
      ++ chain_starts (home (plain_slice p)) l.start p.chains) (lift_column p i)
      (append_left (lift_columns_of (λ a. a.start == l.start) (4 + length p.casts) p.lifts)
      (chain_starts (home (plain_slice p)) l.start p.chains) (lift_column p i)
      (lift_has (λ a. a.start == l.start) (4 + length p.casts) p.lifts i l h (same_to l.start l.start refl))))

  chain_start_col : (i : ℕ) (c : Carry) (b : ℕ) → slice_get p.chains i ≡ Some c → suc b ≤ p.width
      → Member (cols (suc b) c.start) (home (plain_slice p) c.to)
  chain_start_col i c b h w = slice_more (suc b) c.start (home (plain_slice p) c.to) ((omega arith), w)
      (path.chains i c h).0
      (append_right (cast_columns (λ a. a.slice == c.start) 4 p.casts)
      (lift_columns_of (λ a. a.start == c.start) (4 + length p.casts) p.lifts
      ++ chain_starts (home (plain_slice p)) c.start p.chains) (home (plain_slice p) c.to)
      (append_right (lift_columns_of (λ a. a.start == c.start) (4 + length p.casts) p.lifts)
      (chain_starts (home (plain_slice p)) c.start p.chains) (home (plain_slice p) c.to)
      (start_has (home (plain_slice p)) p.chains i c c.start h refl)))

  chain_end_col : (i : ℕ) (c : Carry) (b : ℕ) → slice_get p.chains i ≡ Some c → suc b ≤ p.width
      → Member (cols (suc b) c.to) (home (plain_slice p) c.to)
  chain_end_col i c b h w = slice_own b c.to w (slice_get_within p.slice c.to Input (path.chains i c h).1)
      (homed_end p i c h)

  -- the column of a chain's line, at either of its nets
  pub chain_col : (i : ℕ) (c : Carry) (b : ℕ) (t : Bool) → slice_get p.chains i ≡ Some c → suc b ≤ p.width
      → Member (cols (suc b) (cond t c.to c.start)) (chain_column p (slice_get p.chains i))
  chain_col i c b true h w = subst (λ q. Member (cols (suc b) c.to) (chain_column p q)) (sym h)
      (chain_end_col i c b h w)
  chain_col i c b false h w = subst (λ q. Member (cols (suc b) c.start) (chain_column p q)) (sym h)
      (chain_start_col i c b h w)

  pub chain_col_above : (i : ℕ) (c : Carry) (b : ℕ) (t : Bool) → slice_get p.chains i ≡ Some c → suc b ≤ p.width
      → Member (cols (suc b) (cond t c.start c.to)) (chain_column p (slice_get p.chains i))
  chain_col_above i c b true h w = subst (λ q. Member (cols (suc b) c.start) (chain_column p q)) (sym h)
      (chain_start_col i c b h w)
  chain_col_above i c b false h w = subst (λ q. Member (cols (suc b) c.to) (chain_column p q)) (sym h)
      (chain_end_col i c b h w)

  runs : (c : ℕ) (side : Side) (lo hi b : ℕ) → lo ≤ b → b ≤ hi → Passes (upright c side lo hi) side b c
  runs c side lo hi b l h = record { column = refl; at_side = refl; first = l; last = h }

  pub path_crossing : (t : Tie (Wire Across)) → PathTie p stub t → Crossing Across y t
  path_crossing t (of_net b s i h) = net_crossing Across bands (across_of p) ground_band b (k b) (tracks b i)
      (λ n ins e. homed_gate b n (Gate ins) refl e) (λ n ph d e. homed_gate b n (Latch ph (Some d)) refl e)
      (λ n ins j e c. Rattle.std.proofs.lemmas.List.Elements.All-contains (λ a. a.0 < length (parts p b)) ins j
      (path.gates b n ins e) c) (λ n ph d e. path.latches b n ph d e) (homed_stub b) t h
  path_crossing t (of_phase b ph i) = (
    runs (1 + phase_number ph) L 0 p.width b (omega arith) i,
    inr (crosses b (length (parts p b) + phase_number ph) (1 + phase_number ph)
        (subst (λ z. Member z (1 + phase_number ph)) (sym ((tracks b i).phases ph)) (first b))),
  )
    where
      first : (b : ℕ) → Member (phase_marks (columns_of p b) (parts p b) ph) (1 + phase_number ph)
      first zero = inl refl
      first (suc b) = inl refl
  path_crossing t (of_cast i c h) = (
    runs (cast_column i) L 0 p.width 0 (omega arith) (omega arith),
    inr (crosses 0 c.control (cast_column i) (cast_control_col i c h)),
  )
  path_crossing t (of_cast_slice i c b h s) = (
    runs (cast_column i) L 0 p.width b (omega arith) s.1,
    inr (crosses b c.slice (cast_column i) (cast_slice_col i c b h s)),
  )
  path_crossing t (of_lift i l h) = (
    runs (lift_column p i) L 0 (lift_top (slice_get p.lifts i)) 0 (omega arith) (omega arith),
    inr (crosses 0 l.control (lift_column p i) (lift_control_col i l h)),
  )
  path_crossing t (of_lift_slice i l h) =
      let r = (path.lifts i l h).0 in (
        runs (lift_column p i) L 0 (lift_top (slice_get p.lifts i)) (suc l.slice) (omega arith)
            (subst (λ q. suc l.slice ≤ lift_top q) (sym h) (omega arith)),
        inr (crosses (suc l.slice) l.start (lift_column p i)
            (lift_slice_col i l (suc l.slice) h ((omega arith), (omega arith)))),
      )
  path_crossing t (of_lift_stub i l b h s apart) = (
    runs (lift_column p i) R b b b (omega arith) (omega arith),
    inr (crosses b l.start (lift_column p i) (lift_slice_col i l b h s)),
  )
  path_crossing t (of_below i c g h lt) = (
    runs (chain_column p (slice_get p.chains i)) (side_of g) (max 1 g) (min (suc g) p.width) (suc g) (omega arith)
        (omega arith),
    inr (crosses (suc g) (below c) (chain_column p (slice_get p.chains i)) (chain_col i c g c.up h (omega arith))),
  )
  path_crossing t (of_above i c g h lt) = (
    runs (chain_column p (slice_get p.chains i)) (side_of (suc g)) (max 1 (suc g)) (min (suc (suc g)) p.width)
        (suc g) (omega arith) (omega arith),
    inr (crosses (suc g) (above c) (chain_column p (slice_get p.chains i)) (chain_col_above i c g c.up h lt)),
  )
  path_crossing t (of_open i c h) = (
    runs (chain_column p (slice_get p.chains i)) (side_of (open_gap p c)) (max 1 (open_gap p c))
        (min (suc (open_gap p c)) p.width) (max 1 (open_gap p c)) (omega arith) (open_run c.up),
    inl (refl, refl),
  )
    where
      open_run : (t : Bool) → max 1 (cond t 0 p.width) ≤ min (suc (cond t 0 p.width)) p.width
      open_run true = let w = (path.chains i c h).2 in omega arith
      open_run false = let w = (path.chains i c h).2 in omega arith
  path_crossing t (of_bit_ground i g b h lt) = (
    runs (home (plain_slice p) g.net) R (suc b) (suc b) (suc b)
        (omega arith) (omega arith),
    inl (refl, refl),
  )
  path_crossing t (of_bit_pull i g b h lt) = runs (home (plain_slice p) g.net) L (suc b) (suc b) (suc b)
      (omega arith) (omega arith)
  path_crossing t (of_one i g b h lt bit) = (
    runs (home (plain_slice p) g.net) L (suc b) (suc b) (suc b) (omega arith) (omega arith),
    inr (crosses (suc b) g.net (home (plain_slice p) g.net)
        (slice_own b g.net lt (slice_get_within p.slice g.net Input (path.programs i g h).0) (homed_bit p i g h))),
  )
  path_crossing t (of_zero i g b h lt bit) = (
    runs (home (plain_slice p) g.net) R (suc b) (suc b) (suc b) (omega arith) (omega arith),
    inr (crosses (suc b) g.net (home (plain_slice p) g.net)
        (slice_own b g.net lt (slice_get_within p.slice g.net Input (path.programs i g h).0) (homed_bit p i g h))),
  )
