-- How much stands in the fabric of a path.
use Rattle.std.proofs.Common.{◌≡◌, ℕ, suc, ◌≤◌, ◌+◌, ◌*◌, Option, Some, None, Bool, true, false}
use Rattle.std.proofs.Common.{List, [], ◌∷◌, ◌++◌, length, map, sym, ◌∙◌, ap, subst, arith, not}
use Rattle.std.specs.Prelude.{slice_get, flat_map, slice_index, max, ◌==◌}
use Rattle.std.specs.List.{range_with_len, sum_by}
use Rattle.std.proofs.Math.Nat.{mul-le-mul_left, mul-le-mul_right}
use Rattle.std.proofs.lemmas.List.{length-append, length-map}
use Rattle.std.proofs.lemmas.List.FromFn.{length-range_with_len, length-map-range_with_len}
use Rattle.std.proofs.lemmas.List.Sums.{sum_by-cons, sum_by-append}
use Rattle.mp_base.proofs.Ranges.{flat_most, ones, flat_count}
use Rattle.mp_base.proofs.Lists.{filter_few}
use Rattle.tile_cells.specs.declared.tile.Tile.TheVariants.{TapL, TapR, PullUp}
use Rattle.fabric.specs.declared.thing.Side.{Side}
use Rattle.fabric.specs.declared.thing.Side.TheVariants.{L, R}
use Rattle.fabric.specs.declared.thing.Mark.{Mark}
use Rattle.fabric.specs.Counted.{mark_size, rectangle_count, thing_count}
use Rattle.fabric.specs.Plan.{Plan, rows_of}
use Rattle.nor_net.specs.Shape.{gate_inputs}
use Rattle.nor_net.specs.declared.net.Phase.TheVariants.{A, B, C}
use Rattle.track_assign.specs.declared.packing.Tracks.{Tracks}
use Rattle.array_form.specs.Homes.{home, phase_number}
use Rattle.array_form.specs.Laying.{band_segments, band_lines, band_marks}
use Rattle.array_form.specs.Lists.{mark, tap_tile, upright}
use Rattle.array_form.proofs.Counting.{segments_count, lines_count, marks_few, marks_count}
use Rattle.array_form.proofs.Rows.{rows_few}
use Rattle.path_form.specs.declared.path.DataPath.{DataPath}
use Rattle.path_form.specs.Sizes.{IsNarrow, IsWithin}
use Rattle.slice_form.specs.Joints.{trunk_line, lift_lines, bit_lines, joint_lines}
use Rattle.slice_form.specs.Path.{Path, Carry, Cast, Lift, Programmed}
use Rattle.slice_form.specs.PathLists.{bands_of, slices_of, others_of}
use Rattle.slice_form.specs.PathWires.{cast_line, lift_stub, chain_line, side_of, below, above, open_gap}
use Rattle.slice_form.specs.Slices.{across_of, cast_column, columns_wanted, control_columns, lift_column, plain_slice}
use Rattle.slice_form.specs.Slices.{slice_columns}
use Rattle.slice_form.specs.Whole.{path_of, carry_of, cast_of, lift_of, programmed_of}
use Rattle.slice_form.proofs.Narrow.{narrow}
use Rattle.slice_laying.specs.Added.{slice_cols, slice_segments, slice_lines, slice_marks, of_phases, trunk_taps}
use Rattle.slice_laying.specs.Added.{cast_taps, lift_taps, bit_tap, bit_marks, link_taps, chain_taps, joint_marks}
use Rattle.slice_laying.specs.Taps.{control_cast_taps, control_lift_taps, control_taps}
use Rattle.slice_laying.proofs.WholeNarrow.{wholes_are_narrow}
use Rattle.fabric_extent.specs.Bounds.{IsSmall}
use Rattle.slice_chip.specs.Sizes.{RectanglesAreFew, SlicedIsSmall, ThingsAreFew}
use Rattle.slice_chip.specs.Sliced.{IsSliced, control_cols, path_laid}
use Rattle.slice_chip.proofs.ControlRoom.{bands_are, rows_above}

-- ---- sums

map_most : {A : Type 0} (size : A → ℕ) (g : ℕ → A) (most : ℕ) → ((i : ℕ) → size (g i) ≤ most) → (xs : List ℕ)
    → sum_by size (map g xs) ≤ length xs * most
map_most size g most h [] = omega arith
map_most size g most h (x ∷ xs) =
    let i = map_most size g most h xs in
    let s = sum_by-cons size (g x) (map g xs) in
    let b = h x in omega (arith, i, s, b)

module _ (p : Path) where
  slices_long : length (slices_of p) ≡ p.width
  slices_long = length-range_with_len 1 p.width

  others_few : (l : Lift) → length (others_of p l) ≤ p.width
  others_few l =
      let f = filter_few (λ b. not (b == suc l.slice)) (slices_of p) in let s = slices_long in omega (arith, f, s)

  -- ---- lines

  lift_count : (i : ℕ) (q : Option Lift) → length (lift_lines p i q) ≤ 1 + p.width
  lift_count i None = omega arith
  lift_count i (Some l) =
      let o = others_few l in
      let m = length-map (others_of p l) (λ b. across_of p (lift_stub i b)) in omega (arith, o, m)

  bit_count : (q : Option Programmed) → length (bit_lines p q) ≤ p.width * 2
  bit_count None = omega arith
  bit_count (Some g) =
      flat_count
      (λ b. upright (home (plain_slice p) g.net) L b b ∷ upright (home (plain_slice p) g.net) R b b ∷ []) 2 1 p.width
      (λ b. omega arith)

  chain_count : (i : ℕ) → length (map (λ g. across_of p (chain_line i g)) (bands_of p)) ≤ 1 + p.width
  chain_count i =
      let m = length-map-range_with_len (λ g. across_of p (chain_line i g)) 0 (suc p.width) in omega (arith, m)

  abbrev joints_most : ℕ
  joints_most =
      3 + (length p.casts + (length p.lifts * (1 + p.width) + (length p.programs * (p.width * 2)
      + length p.chains * (1 + p.width))))

  joints_count : length (joint_lines p) ≤ joints_most
  joints_count =
      let trunks = trunk_line p A ∷ trunk_line p B ∷ trunk_line p C ∷ [] in
      let casts = map (λ i. across_of p (cast_line i)) (range_with_len 0 (length p.casts)) in
      let lifts = flat_map (λ i. lift_lines p i (slice_get p.lifts i)) (range_with_len 0 (length p.lifts)) in
      let bits = flat_map (λ i. bit_lines p (slice_get p.programs i)) (range_with_len 0 (length p.programs)) in
      let chains = flat_map (λ i. map (λ g. across_of p (chain_line i g)) (bands_of p))
      (range_with_len 0 (length p.chains)) in
      let a = length-append casts (lifts ++ (bits ++ chains)) in
      let b = length-append lifts (bits ++ chains) in
      let c = length-append bits chains in
      let d = length-map-range_with_len (λ i. across_of p (cast_line i)) 0 (length p.casts) in
      let e = flat_count (λ i. lift_lines p i (slice_get p.lifts i)) (1 + p.width) 0 (length p.lifts)
      (λ i. lift_count i (slice_get p.lifts i)) in
      let g = flat_count (λ i. bit_lines p (slice_get p.programs i)) (p.width * 2) 0 (length p.programs)
      (λ i. bit_count (slice_get p.programs i)) in
      let h = flat_count (λ i. map (λ g. across_of p (chain_line i g)) (bands_of p)) (1 + p.width) 0 (length p.chains)
      chain_count in
      omega (arith, a, b, c, d, e, g, h)

  abbrev marks_most : ℕ
  marks_most =
      p.width * 3 + (length p.casts * p.width + (length p.lifts * (1 + p.width)
      + (length p.programs * (p.width * 12) + length p.chains * (1 + p.width * 2))))

  -- ---- marks, each of a size: a tap 1, a pull-up at most 10

  module _ (size : Mark → ℕ) (tapl : (b r c : ℕ) → size (mark TapL b r c) ≤ 1)
      (tapr : (b r c : ℕ) → size (mark TapR b r c) ≤ 1) (pull : (b r c : ℕ) → size (mark PullUp b r c) ≤ 10)
      (top : ℕ) (row crow : ℕ → ℕ)
    where
      tap_either : (side : Side) (b r c : ℕ) → size (mark (tap_tile side) b r c) ≤ 1
      tap_either L b r c = tapl b r c
      tap_either R b r c = tapr b r c

      one_size : (x : Mark) → sum_by size (x ∷ []) ≡ size x
      one_size x = let e = sum_by-cons size x [] in omega (arith, e)

      two_size : (x y : Mark) → sum_by size (x ∷ y ∷ []) ≡ size x + size y
      two_size x y = let e = sum_by-cons size x (y ∷ []) in let o = one_size y in omega (arith, e, o)

      three_size : (x y z : Mark) → sum_by size (x ∷ y ∷ z ∷ []) ≡ size x + size y + size z
      three_size x y z = let e = sum_by-cons size x (y ∷ z ∷ []) in let o = two_size y z in omega (arith, e, o)

      taps_three : (b x y z c d e : ℕ)
          → sum_by size (mark TapL b x c ∷ mark TapL b y d ∷ mark TapL b z e ∷ []) ≤ 3
      taps_three b x y z c d e =
          let s = three_size (mark TapL b x c) (mark TapL b y d) (mark TapL b z e) in
          let i = tapl b x c in let j = tapl b y d in let k = tapl b z e in omega (arith, s, i, j, k)

      trunk_size : (b : ℕ) → sum_by size (trunk_taps p row b) ≤ 3
      trunk_size b = taps_three b _ _ _ 1 2 3

      cast_size : (i : ℕ) (q : Option Cast) → sum_by size (cast_taps p row i q) ≤ p.width
      cast_size i None = omega arith
      cast_size i (Some c) =
          let m = map_most size (λ b. mark TapL b (suc (row c.slice)) (cast_column i)) 1
          (λ b. tapl b (suc (row c.slice)) (cast_column i)) (slices_of p) in
          let l = slices_long in omega (arith, m, l)

      lift_size : (i : ℕ) (q : Option Lift) → sum_by size (lift_taps p row i q) ≤ 1 + p.width
      lift_size i None = omega arith
      lift_size i (Some l) =
          let m = map_most size (λ b. mark TapR b (suc (row l.start)) (lift_column p i)) 1
          (λ b. tapr b (suc (row l.start)) (lift_column p i)) (others_of p l) in
          let o = others_few l in
          let h = tapl (suc l.slice) (suc (row l.start)) (lift_column p i) in
          let s = sum_by-cons size (mark TapL (suc l.slice) (suc (row l.start)) (lift_column p i))
          (map (λ b. mark TapR b (suc (row l.start)) (lift_column p i)) (others_of p l)) in
          omega (arith, m, o, h, s)

      bit_tap_size : (b n c : ℕ) (o : Option Bool) → sum_by size (bit_tap row b n c o) ≤ 1
      bit_tap_size b n c None = omega arith
      bit_tap_size b n c (Some true) =
          let o = one_size (mark TapL b (suc (row n)) c) in let t = tapl b (suc (row n)) c in omega (arith, o, t)
      bit_tap_size b n c (Some false) =
          let o = one_size (mark TapR b (suc (row n)) c) in let t = tapr b (suc (row n)) c in omega (arith, o, t)

      bit_size : (q : Option Programmed) → sum_by size (bit_marks p top row q) ≤ p.width * 12
      bit_size None = omega arith
      bit_size (Some g) =
          flat_most size (λ k. mark TapR (suc k) 0 (home (plain_slice p) g.net) ∷ mark PullUp (suc k) top
          (home (plain_slice p) g.net) ∷ bit_tap row (suc k) g.net (home (plain_slice p) g.net) (slice_get g.bits k)) 12
          0 p.width
          (λ k.
          let c = home (plain_slice p) g.net in
          let rest = bit_tap row (suc k) g.net (home (plain_slice p) g.net) (slice_get g.bits k) in
          let a = sum_by-cons size (mark TapR (suc k) 0 c) (mark PullUp (suc k) top c ∷ rest) in
          let b = sum_by-cons size (mark PullUp (suc k) top c) rest in
          let x = tapr (suc k) 0 c in let y = pull (suc k) top c in
          let z = bit_tap_size (suc k) g.net c (slice_get g.bits k) in omega (arith, a, b, x, y, z))

      chain_size : (q : Option Carry) → sum_by size (chain_taps p row q) ≤ 1 + p.width * 2
      chain_size None = omega arith
      chain_size (Some c) =
          let at = home (plain_slice p) c.to in
          let open_tap = mark (tap_tile (side_of (open_gap p c))) (max 1 (open_gap p c)) 0 (home (plain_slice p) c.to)
          in
          let m = flat_most size (link_taps p row c) 2 0 p.width
          (λ k.
          let s = two_size (mark (tap_tile (side_of k)) (suc k) (suc (row (below c))) (home (plain_slice p) c.to))
          (mark (tap_tile (side_of (suc k))) (suc k) (suc (row (above c))) (home (plain_slice p) c.to)) in
          let x = tap_either (side_of k) (suc k) (suc (row (below c))) (home (plain_slice p) c.to) in
          let y = tap_either (side_of (suc k)) (suc k) (suc (row (above c))) (home (plain_slice p) c.to) in
          omega (arith, s, x, y)) in
          let s = sum_by-cons size open_tap (flat_map (link_taps p row c) (range_with_len 0 p.width)) in
          let o = tap_either (side_of (open_gap p c)) (max 1 (open_gap p c)) 0 (home (plain_slice p) c.to) in
          omega (arith, m, s, o)

      joint_size : sum_by size (joint_marks p top row) ≤ marks_most
      joint_size =
          let trunks = flat_map (trunk_taps p row) (slices_of p) in
          let casts = flat_map (λ i. cast_taps p row i (slice_get p.casts i)) (range_with_len 0 (length p.casts)) in
          let lifts = flat_map (λ i. lift_taps p row i (slice_get p.lifts i)) (range_with_len 0 (length p.lifts)) in
          let bits = flat_map (λ i. bit_marks p top row (slice_get p.programs i))
          (range_with_len 0 (length p.programs)) in
          let chains = flat_map (λ i. chain_taps p row (slice_get p.chains i)) (range_with_len 0 (length p.chains)) in
          let a = sum_by-append size trunks (casts ++ (lifts ++ (bits ++ chains))) in
          let b = sum_by-append size casts (lifts ++ (bits ++ chains)) in
          let c = sum_by-append size lifts (bits ++ chains) in
          let d = sum_by-append size bits chains in
          let e = flat_most size (trunk_taps p row) 3 1 p.width trunk_size in
          let g = flat_most size (λ i. cast_taps p row i (slice_get p.casts i)) p.width 0 (length p.casts)
          (λ i. cast_size i (slice_get p.casts i)) in
          let h = flat_most size (λ i. lift_taps p row i (slice_get p.lifts i)) (1 + p.width) 0 (length p.lifts)
          (λ i. lift_size i (slice_get p.lifts i)) in
          let j = flat_most size (λ i. bit_marks p top row (slice_get p.programs i)) (p.width * 12) 0
          (length p.programs) (λ i. bit_size (slice_get p.programs i)) in
          let k = flat_most size (λ i. chain_taps p row (slice_get p.chains i)) (1 + p.width * 2) 0 (length p.chains)
          (λ i. chain_size (slice_get p.chains i)) in
          omega (arith, a, b, c, d, e, g, h, j, k)

      control_cast_size : (i : ℕ) (q : Option Cast) → sum_by size (control_cast_taps crow i q) ≤ 1
      control_cast_size i None = omega arith
      control_cast_size i (Some c) =
          let o = one_size (mark TapL 0 (suc (crow c.control)) (cast_column i)) in
          let t = tapl 0 (suc (crow c.control)) (cast_column i) in omega (arith, o, t)

      control_lift_size : (i : ℕ) (q : Option Lift) → sum_by size (control_lift_taps p crow i q) ≤ 1
      control_lift_size i None = omega arith
      control_lift_size i (Some l) =
          let o = one_size (mark TapL 0 (suc (crow l.control)) (lift_column p i)) in
          let t = tapl 0 (suc (crow l.control)) (lift_column p i) in omega (arith, o, t)

      control_size : sum_by size (control_taps p crow) ≤ 3 + length p.casts + length p.lifts
      control_size =
          let phases = of_phases
          (λ ph. mark TapL 0 (suc (crow (length p.control + phase_number ph))) (1 + phase_number ph)) in
          let casts = flat_map (λ i. control_cast_taps crow i (slice_get p.casts i)) (range_with_len 0 (length p.casts))
          in
          let lifts = flat_map (λ i. control_lift_taps p crow i (slice_get p.lifts i))
          (range_with_len 0 (length p.lifts)) in
          let a = sum_by-append size phases (casts ++ lifts) in
          let b = sum_by-append size casts lifts in
          let c = taps_three 0 (suc (crow (length p.control + 0))) (suc (crow (length p.control + 1)))
          (suc (crow (length p.control + 2))) 1 2 3 in
          let d = flat_most size (λ i. control_cast_taps crow i (slice_get p.casts i)) 1 0 (length p.casts)
          (λ i. control_cast_size i (slice_get p.casts i)) in
          let e = flat_most size (λ i. control_lift_taps p crow i (slice_get p.lifts i)) 1 0 (length p.lifts)
          (λ i. control_lift_size i (slice_get p.lifts i)) in
          omega (arith, a, b, c, d, e)

-- ---- the whole

module _ (p : DataPath) (control slices : Tracks) where
  abbrev whole : Path
  whole = path_of p

  abbrev f : Plan
  f = path_laid whole (columns_wanted whole) control slices

  abbrev crow : ℕ → ℕ
  crow = slice_index control.row

  abbrev srow : ℕ → ℕ
  srow = slice_index slices.row

  -- the joined things are as many as in the data path
  casts_same : length whole.casts ≡ length p.casts
  casts_same = length-map p.casts cast_of

  lifts_same : length whole.lifts ≡ length p.lifts
  lifts_same = length-map p.lifts lift_of

  chains_same : length whole.chains ≡ length p.slices.chains
  chains_same = length-map p.slices.chains carry_of

  programs_same : length whole.programs ≡ length p.slices.programs
  programs_same = length-map p.slices.programs (programmed_of p.width)

  bands_count : length f.rows ≡ suc p.width
  bands_count = bands_are whole control (columns_wanted whole) control.rows slices.rows

  segment_count : length f.segments ≤ length p.control + 3 + p.width * (length p.slices.net + 3)
  segment_count =
      let low = band_segments 0 (control_cols whole) crow p.control in
      let high = slice_segments whole srow in
      let a = length-append (low ++ high) [] in
      let b = length-append low high in
      let c = segments_count 0 (control_cols whole) crow p.control in
      let d = flat_count (λ b. band_segments b (slice_cols whole) srow p.slices.net) (length p.slices.net + 3) 1 p.width
      (λ b. (let e = segments_count b (slice_cols whole) srow p.slices.net in omega (arith, e))) in
      omega (arith, a, b, c, d)

  line_count : length f.lines
      ≤ 2 * length p.control + p.width * (2 * length p.slices.net) + joints_most whole
  line_count =
      let low = band_lines 0 (control_columns whole) p.control in
      let high = slice_lines whole in
      let joints = joint_lines whole in
      let a = length-append (low ++ (high ++ joints)) [] in
      let b = length-append low (high ++ joints) in
      let c = length-append high joints in
      let d = lines_count 0 (control_columns whole) p.control in
      let e = flat_count (λ b. band_lines b (slice_columns whole) p.slices.net) (2 * length p.slices.net) 1 p.width
      (λ b. lines_count b (slice_columns whole) p.slices.net) in
      let g = joints_count whole in
      omega (arith, a, b, c, d, e, g)

  -- marks by a size, where those of a net's parts are bounded
  marks_sum : (size : Mark → ℕ) → ((b r c : ℕ) → size (mark TapL b r c) ≤ 1)
      → ((b r c : ℕ) → size (mark TapR b r c) ≤ 1) → ((b r c : ℕ) → size (mark PullUp b r c) ≤ 10)
      → (below above : ℕ) → sum_by size (band_marks 0 (suc control.rows) crow (control_columns whole) p.control) ≤ below
      → ((b : ℕ) → sum_by size (band_marks b (suc slices.rows) srow (slice_columns whole) p.slices.net) ≤ above)
      → sum_by size f.marks
      ≤ below + p.width * above + (marks_most whole + (3 + length whole.casts + length whole.lifts))
  marks_sum size tapl tapr pull below above low high =
      let net = band_marks 0 (suc control.rows) crow (control_columns whole) p.control in
      let nets = slice_marks whole (suc slices.rows) srow in
      let joints = joint_marks whole (suc slices.rows) srow in
      let taps = control_taps whole crow in
      let a = sum_by-append size (net ++ (nets ++ joints)) taps in
      let b = sum_by-append size net (nets ++ joints) in
      let c = sum_by-append size nets joints in
      let d = flat_most size (λ b. band_marks b (suc slices.rows) srow
      (slice_columns whole) p.slices.net) above 1 p.width
      high in
      let e = joint_size whole size tapl tapr pull (suc slices.rows) srow crow in
      let g = control_size whole size tapl tapr pull (suc slices.rows) srow crow in
      omega (arith, a, b, c, d, e, g, low)

  mark_rects : sum_by mark_size f.marks
      ≤ (12 * length p.control + 4 * gate_inputs p.control)
      + p.width * (12 * length p.slices.net + 4 * gate_inputs p.slices.net)
      + (marks_most whole + (3 + length whole.casts + length whole.lifts))
  mark_rects =
      marks_sum mark_size (λ b r c. omega arith) (λ b r c. omega arith) (λ b r c. omega arith)
      (12 * length p.control + 4 * gate_inputs p.control) (12 * length p.slices.net + 4 * gate_inputs p.slices.net)
      (marks_few 0 (suc control.rows) crow (control_columns whole) p.control)
      (λ b. marks_few b (suc slices.rows) srow (slice_columns whole) p.slices.net)

  mark_count : length f.marks
      ≤ (3 * length p.control + gate_inputs p.control)
      + p.width * (3 * length p.slices.net + gate_inputs p.slices.net)
      + (marks_most whole + (3 + length whole.casts + length whole.lifts))
  mark_count =
      let o = ones f.marks in
      let m = marks_sum (λ m. 1) (λ b r c. omega arith) (λ b r c. omega arith) (λ b r c. omega arith)
      (3 * length p.control + gate_inputs p.control) (3 * length p.slices.net + gate_inputs p.slices.net)
      (let c = marks_count 0 (suc control.rows) crow (control_columns whole) p.control in
      let o = ones (band_marks 0 (suc control.rows) crow (control_columns whole) p.control) in omega (arith, c, o))
      (λ b. (let c = marks_count b (suc slices.rows) srow (slice_columns whole) p.slices.net in
      let o = ones (band_marks b (suc slices.rows) srow (slice_columns whole) p.slices.net) in omega (arith, c, o))) in
      omega (arith, o, m)

  -- ---- by the cost

  module _ (cost : ℕ) (within : IsWithin cost p) where
    -- products of the numbers of joined things with the length of words
    joint_products : length p.slices.chains * p.width + length p.casts * p.width + length p.lifts * p.width
        ≤ cost * p.width
    joint_products = let m = mul-le-mul_right p.width within.joints in omega (arith, m)

    program_products : length p.slices.programs * p.width ≤ cost * p.width
    program_products = mul-le-mul_right p.width within.programs

    slice_products : p.width * length p.slices.net ≤ p.width * cost
    slice_products = mul-le-mul_left p.width within.slices

    input_products : p.width * gate_inputs p.slices.net ≤ p.width * (2 * cost)
    input_products = mul-le-mul_left p.width within.slice_inputs

    -- what the joints add, by the cost
    lines_few : joints_most whole ≤ 3 + cost + 3 * (cost * p.width)
    lines_few =
        let c = casts_same in let l = lifts_same in let h = chains_same in let g = programs_same in
        let a = ap (λ n. n * p.width) lifts_same in let b = ap (λ n. n * p.width) chains_same in
        let d = ap (λ n. n * p.width) programs_same in
        let j = within.joints in let x = joint_products in let y = program_products in
        omega (arith, c, l, h, g, a, b, d, j, x, y)

    marks_few_joints : marks_most whole ≤ 3 * p.width + cost + 14 * (cost * p.width)
    marks_few_joints =
        let c = casts_same in let l = lifts_same in let h = chains_same in let g = programs_same in
        let a = ap (λ n. n * p.width) lifts_same in let b = ap (λ n. n * p.width) chains_same in
        let d = ap (λ n. n * p.width) programs_same in let e = ap (λ n. n * p.width) casts_same in
        let j = within.joints in let x = joint_products in let y = program_products in
        omega (arith, c, l, h, g, a, b, d, e, j, x, y)

    taps_few : length whole.casts + length whole.lifts ≤ cost
    taps_few = let c = casts_same in let l = lifts_same in let j = within.joints in omega (arith, c, l, j)

    rects : rectangle_count f ≤ 50 * (cost + 8) * (p.width + 1)
    rects =
        let b = bands_count in let s = segment_count in let l = line_count in let m = mark_rects in
        let jl = lines_few in let jm = marks_few_joints in let t = taps_few in
        let c = within.control in let g = within.control_inputs in
        let x = slice_products in let y = input_products in
        omega (arith, b, s, l, m, jl, jm, t, c, g, x, y)

    things : thing_count f + 2 ≤ 50 * (cost + 8) * (p.width + 1)
    things =
        let s = segment_count in let l = line_count in let m = mark_count in
        let jl = lines_few in let jm = marks_few_joints in let t = taps_few in
        let c = within.control in let g = within.control_inputs in
        let x = slice_products in let y = input_products in
        omega (arith, s, l, m, jl, jm, t, c, g, x, y)

pub rectangles_are_few : RectanglesAreFew
rectangles_are_few cost p f within sliced =
    subst (λ f. rectangle_count f ≤ 50 * (cost + 8) * (p.width + 1)) (sym sliced.is)
    (rects p sliced.control sliced.slices cost within)

pub things_are_few : ThingsAreFew
things_are_few cost p f within sliced =
    subst (λ f. thing_count f + 2 ≤ 50 * (cost + 8) * (p.width + 1)) (sym sliced.is)
    (things p sliced.control sliced.slices cost within)

-- ---- columns and rows

module _ (p : DataPath) (f : Plan) (sliced : IsSliced p f) (cost : ℕ) (within : IsWithin cost p)
    (narrow_path : IsNarrow cost p)
  where
    wide : f.columns ≤ cost + 8
    wide =
        let e : f.columns ≡ columns_wanted (path_of p) = ap (λ (f : Plan). f.columns) sliced.is in
        let n = narrow cost (path_of p) (wholes_are_narrow cost p narrow_path) in omega (arith, e, n)

    rows_same : (b : ℕ) → rows_of f b
        ≡ rows_of (path_laid (path_of p) (columns_wanted (path_of p)) sliced.control sliced.slices) b
    rows_same b = ap (λ (f : Plan). rows_of f b) sliced.is

    control_rows : rows_of f 0 ≤ 2 * cost + 4
    control_rows =
        let e : rows_of f 0 ≡ suc (sliced.control).rows = rows_same 0 in
        let r = rows_few (control_columns (path_of p)) p.control (sliced.control).rows (sliced.control).column
        sliced.control_density in
        let c = within.control in omega (arith, e, r, c)

    slice_rows : (b : ℕ) → suc b ≤ p.width → rows_of f (suc b) ≤ cost + 4
    slice_rows b le =
        let e = rows_same (suc b) ∙ rows_above (path_of p) sliced.control (columns_wanted (path_of p))
        (sliced.control).rows (sliced.slices).rows (suc b) (omega arith, le) in
        let r = rows_few (slice_columns (path_of p)) p.slices.net (sliced.slices).rows (sliced.slices).column
        sliced.slice_density in
        let c = within.slices in omega (arith, e, r, c)

    bands_same : length f.rows ≡ suc p.width
    bands_same = ap (λ (f : Plan). length f.rows) sliced.is ∙ bands_count p sliced.control sliced.slices

    small : IsSmall cost p.width f
    small = record { columns = wide; count = bands_same; control = control_rows; slices = slice_rows }

pub sliced_is_small : SlicedIsSmall
sliced_is_small cost p f within narrow_path sliced = small p f sliced cost within narrow_path
