-- How much one placed net adds.
use Rattle.std.proofs.Common.{◌≡◌, ℕ, zero, suc, ◌≤◌, ◌+◌, ◌*◌, Option, Some, None, Bool, true}
use Rattle.std.proofs.Common.{false, List, [], ◌∷◌, length, map, refl, sym, ◌∙◌, ap, subst, arith}
use Rattle.std.specs.Prelude.{slice_get, flat_map, not, ◌==◌}
use Rattle.std.specs.List.{range_with_len, sum_by}
use Rattle.tile_cells.specs.declared.tile.Tile.TheVariants.{TapL, TapR, Tran, PullUp}
use Rattle.fabric.specs.Counted.{mark_size}
use Rattle.std.proofs.lemmas.List.Sums.{sum_by-cons, sum_by-append}
use Rattle.nor_net.specs.declared.net.NetId.{NetId}
use Rattle.nor_net.specs.declared.net.Part.{Part}
use Rattle.nor_net.specs.declared.net.Part.TheVariants.{Input, Gate, Latch}
use Rattle.nor_net.specs.Shape.{fan_in, gate_inputs}
use Rattle.array_form.specs.Lists.{mark}
use Rattle.array_form.specs.Band.{inputs_of, distinct}
use Rattle.array_form.specs.Homes.{Columns, home}
use Rattle.fabric.specs.Plan.{Plan, rows_of}
use Rattle.fabric.specs.Room.{IsRoomy}
use Rattle.std.proofs.lemmas.List.{length-append}
use Rattle.mp_base.proofs.Lists.{filter_few, length_map}
use Rattle.std.proofs.lemmas.List.FromFn.{length-range_with_len}
use Rattle.array_form.specs.Place.{HasSpace}
use Rattle.array_form.specs.Laying.{with_net, column_lines, band_lines, column_marks, band_marks, band_segments}
use Rattle.array_form.specs.Laying.{band_segment}

-- the sum of f from a on, n times
abbrev pub sum_from : (ℕ → ℕ) → ℕ → ℕ → ℕ
sum_from f a zero = 0
sum_from f a (suc n) = f a + sum_from f (a + 1) n

-- THE list lemma: a bound for each number bounds what all put together weigh
pub sum_flat : {A : Type 0} (size : A → ℕ) (g : ℕ → List A) (most : ℕ → ℕ) (a n : ℕ)
    → ((i : ℕ) → sum_by size (g i) ≤ most i) → sum_by size (flat_map g (range_with_len a n)) ≤ sum_from most a n
sum_flat size g most a zero h = omega arith
sum_flat size g most a (suc n) h =
    let i = sum_flat size g most (a + 1) n h in
    let w = sum_by-append size (g a) (flat_map g (range_with_len (a + 1) n)) in
    let b = h a in omega arith

shift : (f : ℕ → ℕ) (a n : ℕ) → sum_from f (a + 1) n ≡ sum_from (λ i. f (suc i)) a n
shift f a zero = refl
shift f a (suc n) =
    let e : a + 1 ≡ suc a = omega arith in
    ap (λ z. f z + sum_from f (a + 1 + 1) n) e ∙ ap (λ z. f (suc a) + z) (shift f (a + 1) n)

-- a sum over numbers of parts is one over parts
pub sum_parts : (size : Option Part → ℕ) (parts : List Part)
    → sum_from (λ i. size (slice_get parts i)) 0 (length parts) ≡ sum_by (λ q. size (Some q)) parts
sum_parts size [] = refl
sum_parts size (q ∷ qs) =
    ap (λ z. size (Some q) + z)
    (subst (λ z. sum_from (λ i. size (slice_get (q ∷ qs) i)) z (length qs) ≡ sum_by (λ r. size (Some r)) qs)
    (let e : 0 + 1 ≡ 1 = omega arith in refl)
    (shift (λ i. size (slice_get (q ∷ qs) i)) 0 (length qs) ∙ sum_parts size qs))
    ∙ sym (sum_by-cons (λ r. size (Some r)) q qs)

-- rectangles: of a line 1, of a mark those of its tile
abbrev pub one : {A : Type 0} → A → ℕ
one a = 1

abbrev pub inputs_at : Option Part → ℕ
inputs_at None = 0
inputs_at (Some q) = fan_in q

pub distinct_few : (xs : List ℕ) → length (distinct xs) ≤ length xs
distinct_few [] = omega arith
distinct_few (x ∷ xs) =
    let i = distinct_few xs in let f = filter_few (λ y. not (y == x)) (distinct xs) in omega arith

trans_weigh : (b c : ℕ) (row : ℕ → ℕ) (ks : List ℕ)
    → sum_by mark_size (map (λ i. mark Tran b (suc (row i)) c) ks) ≡ 4 * length ks
trans_weigh b c row [] = omega arith
trans_weigh b c row (k ∷ ks) =
    let i = trans_weigh b c row ks in
    let e = sum_by-cons mark_size (mark Tran b (suc (row k)) c) (map (λ i. mark Tran b (suc (row i)) c) ks) in
    omega arith

part_lines_few : (b c : ℕ) (t : Bool) (q : Option Part) → sum_by one (column_lines b c t q) ≤ 2
part_lines_few b c t None = omega arith
part_lines_few b c true (Some Input) = omega arith
part_lines_few b c false (Some Input) = omega arith
part_lines_few b c t (Some (Gate ins)) = omega arith
part_lines_few b c t (Some (Latch ph None)) = omega arith
part_lines_few b c t (Some (Latch ph (Some d))) = omega arith

part_marks_few : (b top : ℕ) (row : ℕ → ℕ) (nets c n : ℕ) (t : Bool) (q : Option Part)
    → sum_by mark_size (column_marks b top row nets c t n q) ≤ 12 + 4 * inputs_at q
part_marks_few b top row nets c n t None = omega arith
part_marks_few b top row nets c n true (Some Input) = omega arith
part_marks_few b top row nets c n false (Some Input) = omega arith
part_marks_few b top row nets c n t (Some (Gate ins)) =
    let w = trans_weigh b c row (inputs_of ins) in
    let d = distinct_few (map (λ (i : NetId). i.0) ins) in
    let m = length_map (λ (i : NetId). i.0) ins in
    let trans = map (λ i. mark Tran b (suc (row i)) c) (inputs_of ins) in
    let e0 = sum_by-cons mark_size (mark TapL b (suc (row n)) c) (mark TapR b 0 c ∷ mark PullUp b top c ∷ trans) in
    let e1 = sum_by-cons mark_size (mark TapR b 0 c) (mark PullUp b top c ∷ trans) in
    let e2 = sum_by-cons mark_size (mark PullUp b top c) trans in
    omega arith
part_marks_few b top row nets c n t (Some (Latch ph None)) = omega arith
part_marks_few b top row nets c n t (Some (Latch ph (Some d))) = omega arith

weight_parts : (parts : List Part)
    → sum_by (λ q. 12 + 4 * fan_in q) parts ≡ 12 * length parts + 4 * sum_by fan_in parts
weight_parts [] = omega arith
weight_parts (q ∷ qs) =
    let i = weight_parts qs in
    let e = sum_by-cons (λ q. 12 + 4 * fan_in q) q qs in
    let f = sum_by-cons fan_in q qs in
    omega arith

weight_two : (parts : List Part) → sum_by (λ (q : Part). 2) parts ≡ 2 * length parts
weight_two [] = omega arith
weight_two (q ∷ qs) = let i = weight_two qs in let e = sum_by-cons (λ (q : Part). 2) q qs in omega arith

-- the lines of a band, and the rectangles of its marks
pub lines_few : (b : ℕ) (y : Columns) (parts : List Part) → sum_by one (band_lines b y parts) ≤ 2 * length parts
lines_few b y parts =
    let w = sum_flat one (λ n. column_lines b (home y n) (y.stub n) (slice_get parts n)) (λ i. 2) 0 (length parts)
    (λ i. part_lines_few b (home y i) (y.stub i) (slice_get parts i)) in
    let s = sum_parts (λ q. 2) parts in let t = weight_two parts in omega arith

pub marks_few : (b top : ℕ) (row : ℕ → ℕ) (y : Columns) (parts : List Part)
    → sum_by mark_size (band_marks b top row y parts) ≤ 12 * length parts + 4 * sum_by fan_in parts
marks_few b top row y parts =
    let w = sum_flat mark_size
    (λ n. column_marks b top row (length parts) (home y n) (y.stub n) n (slice_get parts n))
    (λ i. 12 + 4 * inputs_at (slice_get parts i)) 0 (length parts)
    (λ i. part_marks_few b top row (length parts) (home y i) i (y.stub i) (slice_get parts i)) in
    let s = sum_parts (λ q. 12 + 4 * inputs_at q) parts in
    let t = weight_parts parts in omega arith

pub segments_count : (b : ℕ) (cols : ℕ → List ℕ) (row : ℕ → ℕ) (parts : List Part)
    → length (band_segments b cols row parts) ≡ length parts + 3
segments_count b cols row parts = length_map (band_segment b cols row) (range_with_len 0 (length parts + 3))
    ∙ length-range_with_len 0 (length parts + 3)

ones : {A : Type 0} (xs : List A) → sum_by one xs ≡ length xs
ones [] = refl
ones (x ∷ xs) = let i = ones xs in let e = sum_by-cons one x xs in omega arith

part_marks_count : (b top : ℕ) (row : ℕ → ℕ) (nets c n : ℕ) (t : Bool) (q : Option Part)
    → sum_by one (column_marks b top row nets c t n q) ≤ 3 + inputs_at q
part_marks_count b top row nets c n t None = omega arith
part_marks_count b top row nets c n true (Some Input) = omega arith
part_marks_count b top row nets c n false (Some Input) = omega arith
part_marks_count b top row nets c n t (Some (Gate ins)) =
    let trans = map (λ i. mark Tran b (suc (row i)) c) (inputs_of ins) in
    let e = ones (mark TapL b (suc (row n)) c ∷ mark TapR b 0 c ∷ mark PullUp b top c ∷ trans) in
    let l = length_map (λ i. mark Tran b (suc (row i)) c) (inputs_of ins) in
    let d = distinct_few (map (λ (i : NetId). i.0) ins) in
    let m = length_map (λ (i : NetId). i.0) ins in
    omega arith
part_marks_count b top row nets c n t (Some (Latch ph None)) = omega arith
part_marks_count b top row nets c n t (Some (Latch ph (Some d))) = omega arith

three_each : (parts : List Part) → sum_by (λ q. 3 + fan_in q) parts ≡ 3 * length parts + sum_by fan_in parts
three_each [] = omega arith
three_each (q ∷ qs) =
    let i = three_each qs in
    let e = sum_by-cons (λ q. 3 + fan_in q) q qs in
    let f = sum_by-cons fan_in q qs in
    omega arith

pub lines_count : (b : ℕ) (y : Columns) (parts : List Part) → length (band_lines b y parts) ≤ 2 * length parts
lines_count b y parts = let e = ones (band_lines b y parts) in let f = lines_few b y parts in omega arith

pub marks_count : (b top : ℕ) (row : ℕ → ℕ) (y : Columns) (parts : List Part)
    → length (band_marks b top row y parts) ≤ 3 * length parts + gate_inputs parts
marks_count b top row y parts =
    let w = sum_flat one
    (λ n. column_marks b top row (length parts) (home y n) (y.stub n) n (slice_get parts n))
    (λ i. 3 + inputs_at (slice_get parts i)) 0 (length parts)
    (λ i. part_marks_count b top row (length parts) (home y i) i (y.stub i) (slice_get parts i)) in
    let s = sum_parts (λ q. 3 + inputs_at q) parts in
    let t = three_each parts in
    let o = ones (band_marks b top row y parts) in
    omega arith

-- a fabric with space for a net has room for it
pub net_fits : (f : Plan) (b : ℕ) (y : Columns) (parts : List Part) (cols : ℕ → List ℕ) (row : ℕ → ℕ)
    → IsRoomy f → HasSpace f parts → IsRoomy (with_net f b y parts cols row)
net_fits f b y parts cols row r h = record {
  columns_fit = r.columns_fit;
  bands_fit = r.bands_fit;
  rows_fit = r.rows_fit;
  segments_fit =
      let a = length-append f.segments (band_segments b cols row parts) in
      let c = segments_count b cols row parts in
      let s = h.segments in omega arith;
  lines_fit =
      let a = length-append f.lines (band_lines b y parts) in
      let c = lines_count b y parts in
      let s = h.lines in omega arith;
  marks_fit =
      let a = length-append f.marks (band_marks b (rows_of f b) row y parts) in
      let c = marks_count b (rows_of f b) row y parts in
      let s = h.marks in omega arith;
}
