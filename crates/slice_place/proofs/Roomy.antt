-- A fabric with space for slices has room for what is added.
use Rattle.std.proofs.Common.{◌≡◌, ℕ, suc, ◌+◌, ◌*◌, ◌≤◌, ◌==◌, Option, Some, None, Bool, true, false}
use Rattle.std.proofs.Common.{not}
use Rattle.std.proofs.Common.{[], ◌∷◌, ◌++◌, length, map, arith}
use Rattle.std.specs.Prelude.{flat_map, slice_get}
use Rattle.std.specs.List.{range_with_len}
use Rattle.std.proofs.lemmas.List.{length-append}
use Rattle.std.proofs.lemmas.List.FromFn.{length-range_with_len, length-map-range_with_len}
use Rattle.mp_base.proofs.Ranges.{flat_count}
use Rattle.mp_base.proofs.Lists.{filter_few, length_map}
use Rattle.fabric.specs.Plan.{Plan}
use Rattle.fabric.specs.Room.{IsRoomy}
use Rattle.nor_net.specs.declared.net.Phase.TheVariants.{A, B, C}
use Rattle.nor_net.specs.Shape.{gate_inputs}
use Rattle.array_form.specs.Laying.{band_segments, band_lines, band_marks}
use Rattle.array_form.proofs.Counting.{segments_count, lines_count, marks_count}
use Rattle.slice_form.specs.Joints.{joint_lines, lift_lines, bit_lines, trunk_line}
use Rattle.slice_form.specs.Path.{Path, Carry, Cast, Lift, Programmed}
use Rattle.slice_form.specs.PathLists.{slices_of, bands_of, others_of}
use Rattle.slice_form.specs.PathWires.{cast_line, chain_line, lift_stub}
use Rattle.slice_form.specs.Slices.{across_of, cast_column, lift_column, plain_slice, slice_columns}
use Rattle.tile_cells.specs.declared.tile.Tile.TheVariants.{TapL, TapR, PullUp}
use Rattle.fabric.specs.declared.thing.Side.TheVariants.{L, R}
use Rattle.array_form.specs.Homes.{home}
use Rattle.array_form.specs.Lists.{mark, upright}
use Rattle.slice_laying.specs.Added.{slice_cols, slice_segments, slice_lines, slice_marks, joint_marks, with_slices}
use Rattle.slice_laying.specs.Added.{trunk_taps, cast_taps, lift_taps, bit_tap, bit_marks, link_taps, chain_taps}
use Rattle.slice_place.specs.Placed.{joints, HasSlicesSpace}

times_more : (n m : ℕ) → suc n * m ≡ m + n * m
times_more n m = omega arith

module _ (p : Path) where
  abbrev w : ℕ
  w = p.width

  segments_most : (row : ℕ → ℕ) → length (slice_segments p row) ≤ w * (length p.slice + 3)
  segments_most row =
      flat_count (λ b. band_segments b (slice_cols p) row p.slice) (length p.slice + 3) 1 w
      (λ b. let e = segments_count b (slice_cols p) row p.slice in omega arith)

  lines_most : length (slice_lines p) ≤ w * (2 * length p.slice)
  lines_most = flat_count (λ b. band_lines b (slice_columns p) p.slice) (2 * length p.slice) 1 w
      (λ b. lines_count b (slice_columns p) p.slice)

  pub marks_most : (top : ℕ) (row : ℕ → ℕ)
      → length (slice_marks p top row) ≤ w * (3 * length p.slice + gate_inputs p.slice)
  marks_most top row =
      flat_count (λ b. band_marks b top row (slice_columns p) p.slice) (3 * length p.slice + gate_inputs p.slice) 1 w
      (λ b. marks_count b top row (slice_columns p) p.slice)

  -- ---- the lines of joints
  others_most : (l : Lift) → length (others_of p l) ≤ w
  others_most l =
      let f = filter_few (λ b. not (b == suc l.slice)) (slices_of p) in
      let r = length-range_with_len 1 w in omega arith

  lift_most : (i : ℕ) (q : Option Lift) → length (lift_lines p i q) ≤ 1 + w
  lift_most i None = omega arith
  lift_most i (Some l) =
      let m = length_map (λ b. across_of p (lift_stub i b)) (others_of p l) in
      let o = others_most l in omega arith

  bit_most : (q : Option Programmed) → length (bit_lines p q) ≤ w * 2
  bit_most None = omega arith
  bit_most (Some g) =
      let column = home (plain_slice p) g.net in
      flat_count (λ b. upright column L b b ∷ upright column R b b ∷ []) 2 1 w (λ b. omega arith)

  chain_most : (i : ℕ) → length (map (λ g. across_of p (chain_line i g)) (bands_of p)) ≤ suc w
  chain_most i = let m = length-map-range_with_len (λ g. across_of p (chain_line i g)) 0 (suc w) in omega arith

  joints_most : length (joint_lines p) ≤ w * (2 * joints p) + joints p + 3
  joints_most =
      let trunks = trunk_line p A ∷ trunk_line p B ∷ trunk_line p C ∷ [] in
      let casts = map (λ i. across_of p (cast_line i)) (range_with_len 0 (length p.casts)) in
      let lifts = flat_map (λ i. lift_lines p i (slice_get p.lifts i)) (range_with_len 0 (length p.lifts)) in
      let bits = flat_map (λ i. bit_lines p (slice_get p.programs i)) (range_with_len 0 (length p.programs)) in
      let chains = flat_map (λ i. map (λ g. across_of p (chain_line i g)) (bands_of p))
      (range_with_len 0 (length p.chains)) in
      let a = length-append trunks (casts ++ (lifts ++ (bits ++ chains))) in
      let b = length-append casts (lifts ++ (bits ++ chains)) in
      let c = length-append lifts (bits ++ chains) in
      let d = length-append bits chains in
      let m = length-map-range_with_len (λ i. across_of p (cast_line i)) 0 (length p.casts) in
      let l = flat_count (λ i. lift_lines p i (slice_get p.lifts i)) (1 + w) 0 (length p.lifts)
      (λ i. lift_most i (slice_get p.lifts i)) in
      let g = flat_count (λ i. bit_lines p (slice_get p.programs i)) (w * 2) 0 (length p.programs)
      (λ i. bit_most (slice_get p.programs i)) in
      let k = flat_count (λ i. map (λ g. across_of p (chain_line i g)) (bands_of p)) (suc w) 0 (length p.chains)
      chain_most in
      omega (arith, a, b, c, d, m, l, g, k)

  -- ---- their marks
  cast_marks_most : (row : ℕ → ℕ) (i : ℕ) (q : Option Cast) → length (cast_taps p row i q) ≤ w
  cast_marks_most row i None = omega arith
  cast_marks_most row i (Some c) =
      let m = length-map-range_with_len (λ b. mark TapL b (suc (row c.slice)) (cast_column i)) 1 w in omega (arith, m)

  lift_marks_most : (row : ℕ → ℕ) (i : ℕ) (q : Option Lift) → length (lift_taps p row i q) ≤ 1 + w
  lift_marks_most row i None = omega arith
  lift_marks_most row i (Some l) =
      let m = length_map (λ b. mark TapR b (suc (row l.start)) (lift_column p i)) (others_of p l) in
      let o = others_most l in omega (arith, m, o)

  bit_tap_most : (row : ℕ → ℕ) (b n c : ℕ) (q : Option Bool) → length (bit_tap row b n c q) ≤ 1
  bit_tap_most row b n c None = omega arith
  bit_tap_most row b n c (Some true) = omega arith
  bit_tap_most row b n c (Some false) = omega arith

  bit_marks_most : (top : ℕ) (row : ℕ → ℕ) (q : Option Programmed) → length (bit_marks p top row q) ≤ w * 3
  bit_marks_most top row None = omega arith
  bit_marks_most top row (Some g) =
      let column = home (plain_slice p) g.net in
      flat_count (λ k. mark TapR (suc k) 0 column ∷ mark PullUp (suc k) top column
      ∷ bit_tap row (suc k) g.net column (slice_get g.bits k)) 3 0 w
      (λ k. let b = bit_tap_most row (suc k) g.net column (slice_get g.bits k) in omega (arith, b))

  chain_marks_most : (row : ℕ → ℕ) (q : Option Carry) → length (chain_taps p row q) ≤ 1 + w * 2
  chain_marks_most row None = omega arith
  chain_marks_most row (Some c) = let f = flat_count (link_taps p row c) 2 0 w (λ k. omega arith) in omega arith

  pub joint_marks_most : (top : ℕ) (row : ℕ → ℕ)
      → length (joint_marks p top row) ≤ w * (3 + 3 * joints p) + joints p
  joint_marks_most top row =
      let trunks = flat_map (trunk_taps p row) (slices_of p) in
      let casts = flat_map (λ i. cast_taps p row i (slice_get p.casts i)) (range_with_len 0 (length p.casts)) in
      let lifts = flat_map (λ i. lift_taps p row i (slice_get p.lifts i)) (range_with_len 0 (length p.lifts)) in
      let bits = flat_map (λ i. bit_marks p top row (slice_get p.programs i))
      (range_with_len 0 (length p.programs)) in
      let chains = flat_map (λ i. chain_taps p row (slice_get p.chains i)) (range_with_len 0 (length p.chains)) in
      let a = length-append trunks (casts ++ (lifts ++ (bits ++ chains))) in
      let b = length-append casts (lifts ++ (bits ++ chains)) in
      let c = length-append lifts (bits ++ chains) in
      let d = length-append bits chains in
      let t = flat_count (trunk_taps p row) 3 1 w (λ b. omega arith) in
      let m = flat_count (λ i. cast_taps p row i (slice_get p.casts i)) w 0 (length p.casts)
      (λ i. cast_marks_most row i (slice_get p.casts i)) in
      let l = flat_count (λ i. lift_taps p row i (slice_get p.lifts i)) (1 + w) 0 (length p.lifts)
      (λ i. lift_marks_most row i (slice_get p.lifts i)) in
      let g = flat_count (λ i. bit_marks p top row (slice_get p.programs i)) (w * 3) 0 (length p.programs)
      (λ i. bit_marks_most top row (slice_get p.programs i)) in
      let k = flat_count (λ i. chain_taps p row (slice_get p.chains i)) (1 + w * 2) 0 (length p.chains)
      (λ i. chain_marks_most row (slice_get p.chains i)) in
      omega (arith, a, b, c, d, t, m, l, g, k)

  pub slices_are_roomy : (f : Plan) (top : ℕ) (row : ℕ → ℕ) → IsRoomy f → HasSlicesSpace f p
      → IsRoomy (with_slices f p top row)
  slices_are_roomy f top row r h = record {
    columns_fit = r.columns_fit;
    bands_fit = r.bands_fit;
    rows_fit = r.rows_fit;
    segments_fit =
        let a = length-append f.segments (slice_segments p row) in
        let c = segments_most row in
        let s = h.segments in omega arith;
    lines_fit =
        let a = length-append f.lines (slice_lines p ++ joint_lines p) in
        let b = length-append (slice_lines p) (joint_lines p) in
        let c = lines_most in let j = joints_most in
        let s = h.lines in omega arith;
    marks_fit =
        let a = length-append f.marks (slice_marks p top row ++ joint_marks p top row) in
        let b = length-append (slice_marks p top row) (joint_marks p top row) in
        let c = marks_most top row in let j = joint_marks_most top row in
        let s = h.marks in omega arith;
  }
