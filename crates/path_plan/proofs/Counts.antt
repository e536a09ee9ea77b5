-- How much the crossings and the pads of a path's chip add to its fabric.
use Rattle.std.proofs.Common.{◌≡◌, ◌≢◌, inl, inr, ℕ, zero, suc, ◌+◌, ◌*◌, ◌≤◌, Bool, true, false, cond, not}
use Rattle.std.proofs.Common.{List, [], ◌∷◌, ◌++◌, length, get_or, map, refl, sym, ◌∙◌, ap, arith}
use Rattle.std.specs.Prelude.{All, flat_map, sum_by, ◌==◌}
use Rattle.std.proofs.lemmas.List.{append-nil, length-append, length-map}
use Rattle.std.proofs.lemmas.List.Sums.{sum_by-append, sum_by-cons}
use Rattle.std.proofs.Math.Nat.{mul-le-mul_right}
use Rattle.mp_base.specs.declared.pad.Pad.{Pad}
use Rattle.mp_base.specs.PadNames.{supplies}
use Rattle.mp_base.proofs.Members.{Member, member_at, member_flat, member_map}
use Rattle.mp_base.proofs.Ranges.{flat_count, flat_most}
use Rattle.switch_net.specs.Pads.{bit_labels, chip_labels, labels_of}
use Rattle.switch_net.proofs.Labels.{length_word_labels}
use Rattle.tile_cells.specs.declared.tile.Tile.TheVariants.{Under}
use Rattle.nor_net.specs.declared.net.NetId.{NetId}
use Rattle.fabric.specs.declared.thing.Line.{Line}
use Rattle.fabric.specs.declared.thing.Mark.{Mark}
use Rattle.fabric.specs.declared.thing.Segment.{Segment}
use Rattle.fabric.specs.Counted.{mark_size, rectangle_count, thing_count}
use Rattle.fabric.specs.Plan.{Plan}
use Rattle.track_assign.specs.declared.packing.Tracks.{Tracks}
use Rattle.array_form.specs.Homes.{phase_number}
use Rattle.array_form.specs.Lists.{mark}
use Rattle.path_form.specs.declared.path.DataPath.{DataPath}
use Rattle.path_form.specs.Shape.{PadsFit, entries_of}
use Rattle.path_form.specs.Sizes.{IsWithin}
use Rattle.slice_form.specs.Path.{Path}
use Rattle.slice_form.specs.PathLists.{bands_of}
use Rattle.slice_form.specs.Whole.{pad_entries, path_of}
use Rattle.slice_laying.specs.Added.{of_phases}
use Rattle.slice_chip.specs.Sizes.{RectanglesAreFew, ThingsAreFew}
use Rattle.slice_chip.specs.Unders.{IsLed, led, under, unders}

-- ---- labels, by pads

-- so many words and signals as pads
entries_few : (pads : List Pad) (ids : List NetId)
    → length (entries_of true pads ids) + length (entries_of false pads ids) ≤ length pads
entries_few [] ids = omega arith
entries_few (p ∷ ps) [] = omega arith
entries_few (p ∷ ps) (x ∷ xs) = by_sort (entries_few ps xs) (not (p.width == 0))
  where
    by_sort : length (entries_of true ps xs) + length (entries_of false ps xs) ≤ length ps
        → (b : Bool) → length (cond b (x ∷ entries_of true ps xs) (entries_of true ps xs))
        + length (cond b (entries_of false ps xs) (x ∷ entries_of false ps xs)) ≤ length (p ∷ ps)
    by_sort i true = omega (arith, i)
    by_sort i false = omega (arith, i)

labels_few : (name : List ℕ) (width w : ℕ) → (width ≢ 0 → width ≡ w) → length (labels_of name width) ≤ w + 1
labels_few name zero w h = omega arith
labels_few name (suc n) w h =
    let c = length_word_labels name (suc n) in let s = h (λ e. omega (arith, e)) in omega (arith, c, s)

bits_few : (w : ℕ) (pads : List Pad) → PadsFit w pads → length (flat_map bit_labels pads) ≤ length pads * (w + 1)
bits_few w [] fit = omega arith
bits_few w (q ∷ qs) fit =
    let a = length-append (bit_labels q) (flat_map bit_labels qs) in
    let c = labels_few q.name q.width w (fit 0 q (omega arith)) in
    let i = bits_few w qs (λ i d h. fit (suc i) d (omega (arith, h))) in
    omega (arith, a, c, i)

module _ (p : DataPath) where
  abbrev pad_number : ℕ
  pad_number = length (p.pads).inputs + length (p.pads).outputs

  pub labels_counted : length (chip_labels p.pads) ≤ 5 + pad_number * (p.width + 1)
  labels_counted =
      let ins = flat_map bit_labels (p.pads).inputs in
      let outs = flat_map bit_labels (p.pads).outputs in
      let a = length-append (supplies ++ ins) outs in
      let b = length-append supplies ins in
      let s : length supplies ≡ 5 = refl in
      let i = bits_few p.width (p.pads).inputs p.whole.pads_fit.0 in
      let o = bits_few p.width (p.pads).outputs p.whole.pads_fit.1 in
      omega (arith, a, b, s, i, o)

  -- ---- crossings

  abbrev whole : Path
  whole = path_of p

  west_few : length whole.west_signals + length whole.west_words ≤ pad_number
  west_few =
      let a = length-append (entries_of false (p.pads).inputs p.inputs) (entries_of false (p.pads).outputs p.outputs) in
      let b = length-append (entries_of true (p.pads).inputs p.inputs) (entries_of true (p.pads).outputs p.outputs) in
      let c = length-map (pad_entries false p) (λ (id : NetId). id.0) in
      let d = length-map (pad_entries true p) (λ (id : NetId). id.0) in
      let i = entries_few (p.pads).inputs p.inputs in
      let o = entries_few (p.pads).outputs p.outputs in
      omega (arith, a, b, c, d, i, o)

  led_few : (b : ℕ) → length (led whole b) ≤ pad_number + 3
  led_few zero =
      let a = length-append whole.west_signals (of_phases (λ ph. length p.control + phase_number ph)) in
      let w = west_few in omega (arith, a, w)
  led_few (suc b) = let w = west_few in omega (arith, w)

  module _ (control slices : Tracks) where
    abbrev more : List Mark
    more = unders whole control slices

    crossings_size : (b : ℕ) (ks : List ℕ) → sum_by mark_size (map (under control slices b) ks) ≡ 5 * length ks
    crossings_size b [] = refl
    crossings_size b (k ∷ ks) =
        let i = crossings_size b ks in
        let s = sum_by-cons mark_size (under control slices b k) (map (under control slices b) ks) in
        let one : mark_size (under control slices b k) ≡ 5 = refl in
        omega (arith, i, s, one)

    unders_size : sum_by mark_size more ≤ 5 + (p.width + 1) * (5 * (pad_number + 3))
    unders_size =
        let ours = flat_map (λ b. map (under control slices b) (led whole b)) (bands_of whole) in
        let s = sum_by-cons mark_size (mark Under 0 (suc control.rows) 0) ours in
        let one : mark_size (mark Under 0 (suc control.rows) 0) ≡ 5 = refl in
        let m = flat_most mark_size (λ b. map (under control slices b) (led whole b)) (5 * (pad_number + 3)) 0
        (suc p.width)
        (λ b. (let c = crossings_size b (led whole b) in let l = led_few b in omega (arith, c, l))) in
        omega (arith, s, one, m)

    unders_count : length more ≤ 1 + (p.width + 1) * (pad_number + 3)
    unders_count =
        let m = flat_count (λ b. map (under control slices b) (led whole b)) (pad_number + 3) 0 (suc p.width)
        (λ b. (let c = length-map (led whole b) (under control slices b) in let l = led_few b in
        omega (arith, c, l))) in
        omega (arith, m)

    tile_is : (m : Mark) → Member more m → m.tile ≡ Under
    tile_is m (inl e) = ap (λ (k : Mark). k.tile) (sym e)
    tile_is m (inr h) =
        let w = member_flat (λ b. map (under control slices b) (led whole b)) (bands_of whole) m h in
        let u = member_map (under control slices w.0) (led whole w.0) m w.2 in
        ap (λ (k : Mark). k.tile) (sym u.2)

    pub are_unders : All (λ (m : Mark). m.tile ≡ Under) more
    are_unders i d h = tile_is (get_or more i d) (member_at more i d h)

-- ---- the fabric with crossings

module _ (p : DataPath) (f : Plan) (is_led : IsLed p f) (cost : ℕ) (within : IsWithin cost p)
    (pads : length (p.pads).inputs + length (p.pads).outputs ≤ cost)
  where
    abbrev bare : Plan
    bare = is_led.bare

    abbrev added : List Mark
    added = unders (path_of p) (is_led.sliced).control (is_led.sliced).slices

    pads_grown : (length (p.pads).inputs + length (p.pads).outputs) * (p.width + 1) ≤ cost * (p.width + 1)
    pads_grown = mul-le-mul_right (p.width + 1) pads

    rectangles_led : rectangle_count f ≡ rectangle_count bare + sum_by mark_size added
    rectangles_led =
        ap rectangle_count is_led.is
        ∙ (let a = ap (λ (l : List Segment). length l) (append-nil bare.segments) in
        let b = ap (λ (l : List Line). length l) (append-nil bare.lines) in
        let c = sum_by-append mark_size bare.marks added in
        omega (arith, a, b, c))

    things_led : thing_count f ≡ thing_count bare + length added
    things_led =
        ap thing_count is_led.is
        ∙ (let a = ap (λ (l : List Segment). length l) (append-nil bare.segments) in
        let b = ap (λ (l : List Line). length l) (append-nil bare.lines) in
        let c = length-append bare.marks added in
        omega (arith, a, b, c))

    pub things_counted : ThingsAreFew → thing_count f + 2 ≤ 100 * (cost + 8) * (p.width + 1)
    things_counted few =
        let a = things_led in
        let b = few cost p bare within is_led.sliced in
        let c = unders_count p (is_led.sliced).control (is_led.sliced).slices in
        let d = pads_grown in
        omega (arith, a, b, c, d)

    -- with five rectangles for each pad, and the bridge to ground
    pub rectangles_counted : RectanglesAreFew
        → rectangle_count f + (5 * length (chip_labels p.pads) + 1) ≤ 100 * (cost + 8) * (p.width + 1)
    rectangles_counted few =
        let a = rectangles_led in
        let b = few cost p bare within is_led.sliced in
        let c = unders_size p (is_led.sliced).control (is_led.sliced).slices in
        let d = pads_grown in
        let e = labels_counted p in
        omega (arith, a, b, c, d, e)
