-- The order of the segments of a path's fabric.
use Rattle.std.proofs.Common.{◌≡◌, ℕ, zero, suc, ◌<◌, ◌+◌, ◌*◌, List, ◌++◌, length, get_or}
use Rattle.std.proofs.Common.{◌∙◌, ap, arith}
use Rattle.std.specs.Prelude.{flat_map, slice_index}
use Rattle.std.specs.List.{range_with_len}
use Rattle.std.proofs.lemmas.List.{append-nil, get_or-append-add, get_or_append_left, length-append}
use Rattle.std.proofs.lemmas.List.FromFn.{get_or-map-range_with_len}
use Rattle.fabric.specs.declared.thing.Segment.{Segment}
use Rattle.fabric.specs.Plan.{Plan}
use Rattle.array_form.specs.Laying.{band_segment, band_segments}
use Rattle.array_form.proofs.Counting.{segments_count}
use Rattle.path_form.specs.declared.path.DataPath.{DataPath}
use Rattle.slice_form.specs.Whole.{path_of}
use Rattle.slice_laying.specs.Added.{slice_cols, slice_segments}
use Rattle.slice_chip.specs.Order.{SegmentsInOrder, nowhere, number_at}
use Rattle.slice_chip.specs.Sliced.{IsSliced, control_cols}

-- ---- lists of one length, one after another

flat_long : {A : Type 0} (g : ℕ → List A) (m a n : ℕ) → ((b : ℕ) → length (g b) ≡ m)
    → length (flat_map g (range_with_len a n)) ≡ n * m
flat_long g m a zero h = omega arith
flat_long g m a (suc n) h =
    let l = length-append (g a) (flat_map g (range_with_len (a + 1) n)) in
    let i = flat_long g m (a + 1) n h in
    let b = h a in omega (arith, l, i, b)

flat_at : {A : Type 0} (g : ℕ → List A) (m a n k i : ℕ) (d : A) → ((b : ℕ) → length (g b) ≡ m) → k < n → i < m
    → get_or (flat_map g (range_with_len a n)) (k * m + i) d ≡ get_or (g (a + k)) i d
flat_at g m a zero k i d h lt u = absurd (omega (arith, lt))
flat_at g m a (suc n) zero i d h lt u =
    ap (λ j. get_or (flat_map g (range_with_len a (suc n))) j d) (let e : 0 * m + i ≡ i = omega arith in e)
    ∙ get_or_append_left (g a) (flat_map g (range_with_len (a + 1) n)) d i (let b = h a in omega (arith, b, u))
    ∙ ap (λ b. get_or (g b) i d) (let e : a ≡ a + 0 = omega arith in e)
flat_at g m a (suc n) (suc k) i d h lt u =
    let b = h a in
    ap (λ j. get_or (flat_map g (range_with_len a (suc n))) j d)
    (let e : suc k * m + i ≡ length (g a) + (k * m + i) = omega (arith, b) in e)
    ∙ get_or-append-add (g a) (flat_map g (range_with_len (a + 1) n)) (k * m + i) d
    ∙ flat_at g m (a + 1) n k i d h (omega (arith, lt)) u
    ∙ ap (λ b. get_or (g b) i d) (let e : a + 1 + k ≡ a + suc k = omega arith in e)

module _ (p : DataPath) (f : Plan) (sliced : IsSliced p f) where
  abbrev low : List Segment
  low = band_segments 0 (control_cols (path_of p)) (slice_index (sliced.control).row) p.control

  abbrev each : ℕ → List Segment
  each b = band_segments b (slice_cols (path_of p)) (slice_index (sliced.slices).row) p.slices.net

  abbrev high : List Segment
  high = slice_segments (path_of p) (slice_index (sliced.slices).row)

  segments_are : f.segments ≡ low ++ high
  segments_are = ap (λ (f : Plan). f.segments) sliced.is ∙ append-nil (low ++ high)

  low_long : length low ≡ length p.control + 3
  low_long = segments_count 0 (control_cols (path_of p)) (slice_index (sliced.control).row) p.control

  each_long : (b : ℕ) → length (each b) ≡ length p.slices.net + 3
  each_long b = segments_count b (slice_cols (path_of p)) (slice_index (sliced.slices).row) p.slices.net

  count : length f.segments ≡ length p.control + 3 + p.width * (length p.slices.net + 3)
  count =
      let a = length-append low high in let l = low_long in
      let h = flat_long each (length p.slices.net + 3) 1 p.width each_long in
      ap length segments_are
      ∙ (let e : length (low ++ high) ≡ length p.control + 3 + p.width * (length p.slices.net + 3)
      = omega (arith, a, l, h) in e)

  at_control : (n : ℕ) → n < length p.control + 3 → get_or f.segments n nowhere
      ≡ band_segment 0 (control_cols (path_of p)) (slice_index (sliced.control).row) n
  at_control n lt =
      ap (λ s. get_or s n nowhere) segments_are
      ∙ get_or_append_left low high nowhere n (let l = low_long in omega (arith, l, lt))
      ∙ get_or-map-range_with_len (band_segment 0 (control_cols (path_of p)) (slice_index (sliced.control).row)) 0
      (length p.control + 3) n n nowhere lt (omega arith)

  at_slice : (k n : ℕ) → k < p.width → n < length p.slices.net + 3
      → get_or f.segments (number_at p (suc k) n) nowhere
      ≡ band_segment (suc k) (slice_cols (path_of p)) (slice_index (sliced.slices).row) n
  at_slice k n lt u =
      let l = low_long in
      ap (λ s. get_or s (number_at p (suc k) n) nowhere) segments_are
      ∙ ap (λ j. get_or (low ++ high) j nowhere)
      (let e : length p.control + 3 + (k * (length p.slices.net + 3) + n)
      ≡ length low + (k * (length p.slices.net + 3) + n) = omega (arith, l) in e)
      ∙ get_or-append-add low high (k * (length p.slices.net + 3) + n) nowhere
      ∙ flat_at each (length p.slices.net + 3) 1 p.width k n nowhere each_long lt u
      ∙ ap (λ b. get_or (each b) n nowhere) (let e : 1 + k ≡ suc k = omega arith in e)
      ∙ get_or-map-range_with_len (band_segment (suc k) (slice_cols (path_of p)) (slice_index (sliced.slices).row)) 0
      (length p.slices.net + 3) n n nowhere u (omega arith)

pub segments_in_order : SegmentsInOrder
segments_in_order p f sliced =
    record { count = count p f sliced; control = at_control p f sliced; slices = at_slice p f sliced }
