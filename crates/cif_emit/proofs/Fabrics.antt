-- The rectangles of a fabric are on whole lambda.
use Rattle.std.proofs.Common.{ℕ, zero, suc, ◌≡◌, ◌+◌, ◌*◌, ◌<◌, ◌≤◌, ◌⊎◌, inl, inr, refl, subst, arith}
use Rattle.std.proofs.Common.{Bool, true, cond, eqb, leb, ◌&&◌, List, [], ◌∷◌, ◌++◌, map, All}
use Rattle.std.specs.Prelude.{pos, Contains, flat_map}
use Rattle.std.specs.List.{range_with_len}
use Rattle.std.proofs.lemmas.Bool.{cases_Bool, and_parts, leb-true}
use Rattle.std.proofs.lemmas.List.Elements.{All-nil, All-cons, All-head, All-tail, All-append, All-map, All-weaker}
use Rattle.std.proofs.lemmas.List.Elements.{All-contains}
use Rattle.lam_geom.specs.declared.layer.Layer.{Layer}
use Rattle.lam_geom.specs.declared.layer.Layer.TheVariants.{NM}
use Rattle.lam_geom.specs.declared.rect.Rect.{Rect}
use Rattle.tile_cells.specs.declared.tile.Tile.{Tile}
use Rattle.tile_cells.specs.declared.tile.Tile.TheVariants.{TapL, TapR, Tran, PullUp, Under}
use Rattle.tile_cells.specs.Tiles.{Cell, cells}
use Rattle.fabric.specs.declared.thing.Side.{Side}
use Rattle.fabric.specs.declared.thing.Side.TheVariants.{L, R}
use Rattle.fabric.specs.declared.thing.Segment.{Segment}
use Rattle.fabric.specs.declared.thing.Line.{Line}
use Rattle.fabric.specs.declared.thing.Mark.{Mark}
use Rattle.fabric.specs.Plan.{Plan, bands, rows_of, IsFabric, IsSegment, IsLine, IsMark, LineAt, SegmentAt, Stands}
use Rattle.fabric.specs.Shape.{base, last_column, lambdas, ground_trunk, power_trunk, ground_row, power_rail}
use Rattle.fabric.specs.Shape.{band_rects, segment_rect, line_rect, mark_rects, offset, lift, placed, shape}
use Rattle.fabric.proofs.Bases.{bases_rise}
use Rattle.cif_emit.specs.Emittable.{IsOnLambda, IsOnGrid, farthest}

on_lambda : (n : ℕ) → n ≤ farthest → IsOnLambda (pos (500 * n))
on_lambda n h = record { whole = (pos n, refl); small = omega arith }

on_grid : (l : Layer) (x0 y0 x1 y1 : ℕ) → x0 ≤ farthest → y0 ≤ farthest → x1 ≤ farthest → y1 ≤ farthest
    → IsOnGrid (lambdas l x0 y0 x1 y1)
on_grid l x0 y0 x1 y1 a b c d =
    record { x0 = on_lambda x0 a; y0 = on_lambda y0 b; x1 = on_lambda x1 c; y1 = on_lambda y1 d }

-- ---- tiles

-- how high a tile is, above its lift
height : Tile → ℕ
height TapL = 36
height TapR = 36
height Tran = 36
height PullUp = 36
height Under = 15

-- a cell is 20 wide at most, and so high
fits : ℕ → Cell → Bool
fits h k = leb k.x0 20 && (leb k.y0 h && (leb k.x1 20 && leb k.y1 h))

all_fit : ℕ → List Cell → Bool
all_fit h [] = true
all_fit h (k ∷ ks) = fits h k && all_fit h ks

tile_fits : (t : Tile) → all_fit (height t) (cells t) ≡ true
unfolding all_fit fits height
tile_fits TapL = refl
tile_fits TapR = refl
tile_fits Tran = refl
tile_fits PullUp = refl
tile_fits Under = refl

lifted : (f : Plan) (t : Tile) (b r : ℕ) → lift f t b r + height t ≤ 36
unfolding height
lifted f TapL b r = omega arith
lifted f TapR b r = omega arith
lifted f Tran b r = omega arith
lifted f PullUp b r = omega arith
lifted f Under b r = at (eqb r (rows_of f b))
  where
    at : (c : Bool) → cond c 21 0 + 15 ≤ 36
    at c = elim (cases_Bool c) [ inl e ↦ rw e (omega arith) | inr e ↦ rw e (omega arith) ]

cells_on : (x y h : ℕ) (ks : List Cell) → all_fit h ks ≡ true → x + 20 ≤ farthest → y + h ≤ farthest
    → All IsOnGrid (map (placed x y) ks)
unfolding all_fit fits
cells_on x y h [] e wide high = All-nil IsOnGrid
cells_on x y h (k ∷ ks) e wide high =
    let a = and_parts (fits h k) (all_fit h ks) e in
    let b = and_parts (leb k.x0 20) (leb k.y0 h && (leb k.x1 20 && leb k.y1 h)) a.0 in
    let c = and_parts (leb k.y0 h) (leb k.x1 20 && leb k.y1 h) b.1 in
    let d = and_parts (leb k.x1 20) (leb k.y1 h) c.1 in
    let x0 = leb-true k.x0 20 b.0 in let y0 = leb-true k.y0 h c.0 in
    let x1 = leb-true k.x1 20 d.0 in let y1 = leb-true k.y1 h d.1 in
    All-cons IsOnGrid (placed x y k) (map (placed x y) ks)
    (on_grid k.layer (x + k.x0) (y + k.y0) (x + k.x1) (y + k.y1) (omega arith) (omega arith) (omega arith)
    (omega arith))
    (cells_on x y h ks a.1 wide high)

-- ---- a fabric

module _ (f : Plan) (met : IsFabric f) (wide : 20 * f.columns ≤ farthest) (high : base f (bands f) ≤ farthest) where
  -- a row of a band, below its top and the fabric's
  below_top : (b r : ℕ) → b < bands f → r ≤ rows_of f b → base f b + 12 * r + 36 ≤ farthest
  below_top b r h k = let i = bases_rise f b (bands f) h in omega arith

  record IsPlace (b r c : ℕ) : Type 0 where
    pub band : b < bands f
    pub row : r ≤ rows_of f b
    pub column : c + 1 ≤ f.columns

  line_place : (side : Side) (b c : ℕ) → LineAt f side b c → (b < bands f) × (c + 1 ≤ f.columns)
  line_place side b c l =
      let is = All-contains (IsLine f) f.lines l.line met.lines l.among in
      let p = l.passes in let last = is.last in let right = is.right in let in_band = p.last in
      let in_column = p.column in
      (omega arith, omega arith)

  segment_row : (s : Segment) (b r : ℕ) → Contains f.segments s → s.band ≡ b → s.row ≡ r → r ≤ rows_of f b
  segment_row s b r among e g =
      let is = All-contains (IsSegment f) f.segments s met.segments among in
      let below : s.row < rows_of f b = subst (λ k. s.row < rows_of f k) e is.below in
      omega arith

  crossed_row : (b r c : ℕ) → SegmentAt f b r c → r ≤ rows_of f b
  crossed_row b r c s = let x = s.crosses in segment_row s.segment b r s.among x.band x.row

  low_row : (b r c : ℕ) → (r ≡ 0) ⊎ SegmentAt f b r c → r ≤ rows_of f b
  low_row b r c (inl e) = omega arith
  low_row b r c (inr s) = crossed_row b r c s

  place : (t : Tile) (b r c : ℕ) → Stands f t b r c → IsPlace b r c
  place TapL b r c (l, s) = let p = line_place L b c l in record { band = p.0; row = low_row b r c s; column = p.1 }
  place TapR b r c (l, s) = let p = line_place R b c l in record { band = p.0; row = low_row b r c s; column = p.1 }
  place Tran b r c (l, k, s) =
      let p = line_place L b c l in record { band = p.0; row = crossed_row b r c s; column = p.1 }
  place PullUp b r c (e, l) =
      let p = line_place L b c (record { line = l.0; among = l.1; passes = l.2 }) in
      record { band = p.0; row = omega arith; column = p.1 }
  place Under b r c (e, h, inl g) =
      let m = met.columns in record { band = h; row = omega arith; column = omega arith }
  place Under b r c (e, h, inr s) =
      let m = met.columns in
      record { band = h; row = segment_row s.0 b r s.1 s.2 s.3; column = omega arith }

  mark_on : (m : Mark) → IsMark f m → All IsOnGrid (mark_rects f m)
  mark_on m stands =
      let p = place m.tile m.band m.row m.column stands in
      let c = p.column in
      let top = below_top m.band m.row p.band p.row in
      let l = lifted f m.tile m.band m.row in
      cells_on (20 * m.column) (base f m.band + 12 * m.row + lift f m.tile m.band m.row) (height m.tile)
      (cells m.tile)
      (tile_fits m.tile) (omega arith) (omega arith)

  marks_on : (ms : List Mark) → All (IsMark f) ms → All IsOnGrid (flat_map (mark_rects f) ms)
  marks_on [] h = All-nil IsOnGrid
  marks_on (m ∷ ms) h =
      All-append IsOnGrid (mark_rects f m) (flat_map (mark_rects f) ms) (mark_on m (All-head (IsMark f) m ms h))
      (marks_on ms (All-tail (IsMark f) m ms h))

  segment_on : (s : Segment) → IsSegment f s → IsOnGrid (segment_rect f s)
  segment_on s is =
      let l = is.last in let o = is.order in let k = is.below in
      let top = below_top s.band s.row is.band (omega arith) in
      on_grid NM (20 * s.first) (base f s.band + 12 * s.row + 6) (20 * s.last + 20) (base f s.band + 12 * s.row + 10)
      (omega arith) (omega arith) (omega arith) (omega arith)

  side_low : (s : Side) → offset s ≤ 14
  side_low L = omega arith
  side_low R = omega arith

  line_on : (l : Line) → IsLine f l → IsOnGrid (line_rect f l)
  line_on l is =
      let r = is.right in let o = is.order in let k = is.last in
      let s = side_low l.side in
      let first = below_top l.first_band 0 (omega arith) (omega arith) in
      let last = below_top l.last_band (rows_of f l.last_band) k (omega arith) in
      on_grid _ (20 * l.column + offset l.side) (base f l.first_band) (20 * l.column + offset l.side + 4)
      (base f l.last_band + 12 * rows_of f l.last_band) (omega arith) (omega arith) (omega arith) (omega arith)

  band_on : (b : ℕ) → b < bands f → All IsOnGrid (band_rects f b)
  band_on b h =
      let m = met.columns in
      let top = below_top b (rows_of f b) h (omega arith) in
      All-cons IsOnGrid (ground_row f b) (power_rail f b ∷ [])
      (on_grid NM 7 (base f b + 6) (20 * last_column f) (base f b + 10) (omega arith) (omega arith) (omega arith)
      (omega arith))
      (All-cons IsOnGrid (power_rail f b) []
      (on_grid NM 20 (base f b + 12 * rows_of f b + 27) (20 * last_column f + 13) (base f b + 12 * rows_of f b + 31)
      (omega arith) (omega arith) (omega arith) (omega arith)) (All-nil IsOnGrid))

  bands_on : (a n : ℕ) → a + n ≤ bands f → All IsOnGrid (flat_map (band_rects f) (range_with_len a n))
  bands_on a zero h = All-nil IsOnGrid
  bands_on a (suc n) h =
      All-append IsOnGrid (band_rects f a) (flat_map (band_rects f) (range_with_len (a + 1) n))
      (band_on a (omega arith))
      (bands_on (a + 1) n (omega arith))

  pub fabric_on_grid : All IsOnGrid (shape f)
  fabric_on_grid =
      let m = met.columns in
      let segments : List Rect = map (segment_rect f) f.segments in
      let lines : List Rect = map (line_rect f) f.lines in
      let marks : List Rect = flat_map (mark_rects f) f.marks in
      let in_bands : List Rect = flat_map (band_rects f) (range_with_len 0 (bands f)) in
      let segments_are : All IsOnGrid segments =
      All-map IsOnGrid (segment_rect f) f.segments
      (All-weaker (IsSegment f) (λ s. IsOnGrid (segment_rect f s)) segment_on f.segments met.segments) in
      let lines_are : All IsOnGrid lines =
      All-map IsOnGrid (line_rect f) f.lines
      (All-weaker (IsLine f) (λ l. IsOnGrid (line_rect f l)) line_on f.lines met.lines) in
      let things : All IsOnGrid (segments ++ (lines ++ marks)) =
      All-append IsOnGrid segments (lines ++ marks) segments_are
      (All-append IsOnGrid lines marks lines_are (marks_on f.marks met.marks)) in
      let all : All IsOnGrid (in_bands ++ (segments ++ (lines ++ marks))) =
      All-append IsOnGrid in_bands (segments ++ (lines ++ marks)) (bands_on 0 (bands f) (omega arith)) things in
      let top : ℕ = base f (bands f) in
      let right : ℕ = 20 * last_column f in
      All-cons IsOnGrid (ground_trunk f) (power_trunk f ∷ (in_bands ++ (segments ++ (lines ++ marks))))
      (on_grid NM 7 0 13 top (omega arith) (omega arith) (omega arith) (omega arith))
      (All-cons IsOnGrid (power_trunk f) (in_bands ++ (segments ++ (lines ++ marks)))
      (on_grid NM (right + 7) 0 (right + 13) top (omega arith) (omega arith) (omega arith) (omega arith)) all)
