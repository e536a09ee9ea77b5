-- How high the bands of a fabric stand, and how many rectangles it draws, for all crates above.
use Rattle.std.proofs.Common.{[], List, length, ◌≡◌, ◌∙◌, ap, ◌*◌, ◌+◌, ◌∷◌, map, ◌++◌, arith, ℕ, ◌<◌}
use Rattle.std.proofs.Common.{◌≤◌, ◌⊎◌, zero, suc, inl, inr, take, refl}
use Rattle.std.specs.Prelude.{flat_map, sum_by, sum}
use Rattle.std.proofs.lemmas.List.Concat.{length-flat_map}
use Rattle.std.proofs.lemmas.List.{length-map, length-append}
use Rattle.std.specs.List.{range_with_len}
use Rattle.std.proofs.lemmas.List.FromFn.{length-range_with_len}
use Rattle.std.proofs.lemmas.Bool.{cases_lt}
use Rattle.std.proofs.lemmas.List.Sums.{sum_by_more, sum_by-take-le}
use Rattle.mp_base.proofs.Numbers.{suc_is_next}
use Rattle.lam_geom.specs.declared.rect.Rect.{Rect}
use Rattle.lam_geom.proofs.Rects.{length_two_each}
use Rattle.tile_cells.specs.Tiles.{cells}
use Rattle.fabric.specs.Plan.{Plan, bands, rows_of}
use Rattle.fabric.specs.declared.thing.Mark.{Mark}
use Rattle.fabric.specs.Shape.{mark_rects, placed, base, lift, shape, ground_row, power_rail}
use Rattle.fabric.specs.Shape.{segment_rect, line_rect}
use Rattle.fabric.specs.Counted.{mark_size, rectangle_count}
use Rattle.fabric.specs.Room.{IsRoomy}

pub rectangles_of_marks : (f : Plan) (ms : List Mark) → length (flat_map (mark_rects f) ms) ≡ sum_by mark_size ms
rectangles_of_marks f ms = length-flat_map (mark_rects f) ms ∙ ap (λ g. sum_by g ms) (λ i m.
    length-map (cells m.tile) (placed (20 * m.column) (base f m.band + 12 * m.row + lift f m.tile m.band m.row)) i)

pub rectangles_counted : (f : Plan) → length (shape f) ≡ rectangle_count f
rectangles_counted f =
    let of_bands : List Rect = flat_map (λ b. ground_row f b ∷ power_rail f b ∷ []) (range_with_len 0 (bands f)) in
    let of_segments : List Rect = map (segment_rect f) f.segments in
    let of_lines : List Rect = map (line_rect f) f.lines in
    let cells_of : List Rect = flat_map (mark_rects f) f.marks in
    let a = length-append of_bands (of_segments ++ (of_lines ++ cells_of)) in
    let b = length-append of_segments (of_lines ++ cells_of) in
    let c = length-append of_lines cells_of in
    let in_bands = length_two_each (ground_row f) (power_rail f) (range_with_len 0 (bands f)) in
    let band_count = length-range_with_len 0 (bands f) in
    let segment_count = length-map f.segments (segment_rect f) in
    let line_count = length-map f.lines (line_rect f) in
    let in_marks = rectangles_of_marks f f.marks in
    omega arith

pub bases_rise : (f : Plan) (b c : ℕ) → b < c → base f b + 12 * rows_of f b + 36 ≤ base f c
bases_rise f b zero h = absurd (omega arith)
bases_rise f b (suc c) h = elim (cases_lt b c) [
  | inl k ↦ (let i = bases_rise f b c k in omega arith)
  | inr k ↦ (let e : b ≡ c = omega arith in let g : base f b + 12 * rows_of f b ≡ base f c + 12 * rows_of f c = ap
      (λ z. base f z + 12 * rows_of f z) e in omega arith)
]

pub base_sum : (f : Plan) (b : ℕ) → b ≤ length f.rows → base f b ≡ 12 * sum_by (λ x. x) (take b f.rows) + 36 * b
base_sum f zero h = refl
base_sum f (suc b) h =
    let i = base_sum f b (omega arith) in
    let m = sum_by_more (λ x. x) f.rows b 0 (omega arith) in
    let e : sum_by (λ x. x) (take (suc b) f.rows) ≡ sum_by (λ x. x) (take b f.rows) + rows_of f b =
    ap (λ z. sum_by (λ x. x) (take z f.rows)) (suc_is_next b) ∙ m in
    omega (arith, i, e)

-- far below 2^32
pub top_low : (f : Plan) → IsRoomy f → (b : ℕ) → b ≤ bands f → base f b < 1_073_741_824
top_low f r b h =
    let i = base_sum f b h in
    let m = sum_by-take-le (λ x. x) f.rows b in
    let s = r.rows_fit in let n = r.bands_fit in
    let same : sum f.rows ≡ sum_by (λ x. x) f.rows = refl in
    omega (arith, i, m, s, n, same)

-- how two bands lie
pub record BandsLie (f : Plan) (b c : ℕ) : Type 0 where
  pub lie : (b < c) × (base f b + 12 * rows_of f b + 36 ≤ base f c) ⊎ (b ≡ c) × (base f b ≡ base f c)
      × (rows_of f b ≡ rows_of f c) ⊎ (c < b) × (base f c + 12 * rows_of f c + 36 ≤ base f b)

pub bands_lie : (f : Plan) (b c : ℕ) → BandsLie f b c
bands_lie f b c = elim (cases_lt b c) [
  | inl h ↦ record { lie = inl (h, bases_rise f b c h) }
  | inr h ↦ elim (cases_lt c b) [
    | inl k ↦ record { lie = inr (inr (k, bases_rise f c b k)) }
    | inr k ↦ (let e : b ≡ c = omega arith in record { lie = inr (inl (e, ap (base f) e, ap (rows_of f) e)) })
  ]
]
