-- What a fabric draws lies between its trunks, and its extent is bounded by a cost.
use Rattle.std.proofs.Common.{◌≡◌, ◌⊎◌, inl, inr, ℕ, zero, suc, ◌<◌, ◌≤◌, ◌+◌, ◌*◌, List, [], ◌∷◌, ◌++◌, length}
use Rattle.std.proofs.Common.{map}
use Rattle.std.proofs.Common.{refl, sym, subst, arith}
use Rattle.std.specs.Prelude.{ℤ, pos, ◌+ℤ◌, ◌≤ℤ◌, ◌<ℤ◌, flat_map, ◌≢◌}
use Rattle.std.specs.List.{range_with_len}
use Rattle.std.proofs.lemmas.Int.{ints}
use Rattle.std.proofs.lemmas.Bool.{cases_order}
use Rattle.std.proofs.lemmas.List.Elements.{All-contains}
use Rattle.mp_base.proofs.Members.{Member, member_contains, member_map, range_members, member_append, member_flat}
use Rattle.lam_geom.specs.Extent.{Edges, HoldAll, IsAtMost}
use Rattle.lam_geom.specs.declared.layer.Layer.{Layer}
use Rattle.lam_geom.specs.declared.rect.Rect.{Rect}
use Rattle.lam_geom.specs.Squares.{Covers, covered}
use Rattle.tile_cells.specs.declared.tile.Tile.{Tile}
use Rattle.tile_cells.specs.declared.tile.Tile.TheVariants.{TapL, TapR, Tran, PullUp, Under}
use Rattle.tile_cells.specs.Tiles.{Cell, cells}
use Rattle.fabric.specs.declared.thing.Side.TheVariants.{L, R}
use Rattle.fabric.specs.declared.thing.Segment.{Segment}
use Rattle.fabric.specs.declared.thing.Line.{Line}
use Rattle.fabric.specs.Plan.{Plan, bands, rows_of, IsFabric, IsSegment, IsLine, IsMark, Stands, LineAt, SegmentAt}
use Rattle.fabric.specs.Shape.{base, shape, last_column, lambdas, ground_trunk, power_trunk, ground_row, power_rail}
use Rattle.fabric.specs.Shape.{segment_rect, line_rect, mark_rects, placed, tile_rects, offset}
use Rattle.fabric_extent.specs.Bounds.{FabricsAreBetween, HasNoUnder, IsSmall, SmallFabrics}

-- what stands between edges has an extent of at most their distances
at_most : (covers : Layer → ℤ → ℤ → Type 0) (x0 width height : ℕ)
    → HoldAll covers (record {
      left = pos (500 * x0);
      bottom = pos 0;
      right = pos (500 * (x0 + width));
      top = pos (500 * height);
    })
    → IsAtMost covers width height
at_most covers x0 width height h e is =
    let outer : Edges = record {
      left = pos (500 * x0);
      bottom = pos 0;
      right = pos (500 * (x0 + width));
      top = pos (500 * height);
    } in
    let w = is.least outer h in
    (wide e.left e.right x0 width w.left w.right, high e.bottom e.top height w.bottom w.top)
  where
    wide : (low far : ℤ) (x0 width : ℕ) → pos (500 * x0) ≤ℤ low → far ≤ℤ pos (500 * (x0 + width))
        → far ≤ℤ (low +ℤ pos (500 * width))
    wide low far x0 width a b = omega (arith, ints)

    high : (low far : ℤ) (height : ℕ) → pos 0 ≤ℤ low → far ≤ℤ pos (500 * height) → far ≤ℤ (low +ℤ pos (500 * height))
    high low far height a b = omega (arith, ints)

-- the height of all bands of a small fabric
pub height_small : (cost width : ℕ) (f : Plan) → IsSmall cost width f → (b : ℕ) → b ≤ width
    → base f (suc b) ≤ b * (12 * (cost + 8) + 36) + 24 * (cost + 8) + 96
height_small cost width f s zero h = let c = s.control in omega arith
height_small cost width f s (suc b) h =
    let i = height_small cost width f s b (omega arith) in
    let r = s.slices b h in
    omega arith

-- a rectangle that stands inside
abbrev Within : Rect → ℕ → ℕ → ℕ → ℕ → Type 0
Within r x0 y0 x1 y1 = (pos (500 * x0) ≤ℤ r.x0) × (r.x1 ≤ℤ pos (500 * x1)) × (pos (500 * y0) ≤ℤ r.y0) ×
    (r.y1 ≤ℤ pos (500 * y1))

within_covers : (r : Rect) (x0 y0 x1 y1 : ℕ) → Within r x0 y0 x1 y1 → (l : Layer) (x y : ℤ) → Covers r l x y
    → (pos (500 * x0) ≤ℤ x) × (x <ℤ pos (500 * x1)) × (pos (500 * y0) ≤ℤ y) × (y <ℤ pos (500 * y1))
within_covers r x0 y0 x1 y1 w l x y c =
    let a = w.0 in let b = w.1 in let d = w.2 in let e = w.3 in let p = c.left in let q = c.right in
    let s = c.bottom in let t = c.top in
    (omega (arith, ints), omega (arith, ints), omega (arith, ints), omega (arith, ints))

-- lower bands lie below higher ones
base_grows : (f : Plan) (b c : ℕ) → b < c → base f b + (12 * rows_of f b + 36) ≤ base f c
base_grows f b zero h = absurd (omega arith)
base_grows f b (suc c) h = elim (cases_order b c) [
  | inl e ↦ subst (λ z. base f z + (12 * rows_of f z + 36) ≤ base f (suc c)) (sym e) (omega arith)
  | inr (inl lt) ↦ (let i = base_grows f b c lt in omega arith)
  | inr (inr gt) ↦ absurd (omega arith)
]

-- ---- each thing of a fabric stands inside
-- a rectangle in lambda stands inside where its numbers do
lambdas_within : (l : Layer) (a b c d x0 y0 x1 y1 : ℕ) → x0 ≤ a → c ≤ x1 → y0 ≤ b → d ≤ y1
    → Within (lambdas l a b c d) x0 y0 x1 y1
lambdas_within l a b c d x0 y0 x1 y1 h k m n = (
  omega (arith, ints),
  omega (arith, ints),
  omega
      (arith, ints),
  omega (arith, ints),
)

-- a cell that fits its tile
record Fits (high : ℕ) (c : Cell) : Type 0 where
  left : c.x0 ≤ c.x1
  right : c.x1 ≤ 20
  top : c.y1 ≤ high

abbrev AllFit : ℕ → List Cell → Type 0
AllFit high [] = Unit {0}
AllFit high (c ∷ cs) = Fits high c × AllFit high cs

fit : (high : ℕ) (c : Cell) → c.x0 ≤ c.x1 → c.x1 ≤ 20 → c.y1 ≤ high → Fits high c
fit high c a b d = record { left = a; right = b; top = d }

module _ (f : Plan) (lawful : IsFabric f) (bare : HasNoUnder f) where
  -- the sides of the chip
  right_side : ℕ
  right_side = 20 * last_column f + 13

  top_side : ℕ
  top_side = base f (bands f)

  band_top : (b : ℕ) → b < bands f → base f b + (12 * rows_of f b + 36) ≤ top_side
  unfolding top_side
  band_top b h = base_grows f b (bands f) h

  Good : Rect → Type 0
  Good r = Within r 7 0 right_side top_side

  good : (l : Layer) (a b c d : ℕ) → 7 ≤ a → c ≤ right_side → d ≤ top_side → Good (lambdas l a b c d)
  unfolding Good
  good l a b c d h k n = lambdas_within l a b c d 7 0 right_side top_side h k (omega arith) n

  wide : 3 ≤ f.columns
  wide = lawful.columns

  ground_trunk_good : Good (ground_trunk f)
  unfolding right_side top_side
  ground_trunk_good = let w = wide in good _ 7 0 13 (base f (bands f)) (omega arith) (omega arith) (omega arith)

  power_trunk_good : Good (power_trunk f)
  unfolding right_side top_side
  power_trunk_good = let w = wide in good _ (20 * last_column f + 7) 0 (20 * last_column f + 13) (base f
      (bands f)) (omega arith) (omega arith) (omega arith)

  ground_row_good : (b : ℕ) → b < bands f → Good (ground_row f b)
  unfolding right_side
  ground_row_good b h = let t = band_top b h in good _ 7 (base f b + 6) (20 * last_column f) (base f b + 10)
      (omega arith) (omega arith) (omega arith)

  power_rail_good : (b : ℕ) → b < bands f → Good (power_rail f b)
  unfolding right_side
  power_rail_good b h =
      let t = band_top b h in
      good _ 20 (base f b + 12 * rows_of f b + 27) (20 * last_column f + 13) (base f b + 12 * rows_of f b + 31)
      (omega arith) (omega arith) (omega arith)

  segment_good : (s : Segment) → IsSegment f s → Good (segment_rect f s)
  unfolding right_side
  segment_good s i =
      let t = band_top s.band i.band in let a = i.first in let b = i.last in let c = i.below in
      good _ (20 * s.first) (base f s.band + 12 * s.row + 6) (20 * s.last + 20) (base f s.band + 12 * s.row + 10)
      (omega arith) (omega arith) (omega arith)

  line_good : (l : Line) → IsLine f l → Good (line_rect f l)
  unfolding right_side
  line_good l i =
      let t = band_top l.last_band i.last in let a = i.column in let b = i.right in
      good _ (20 * l.column + offset l.side) (base f l.first_band) (20 * l.column + offset l.side + 4)
      (base f l.last_band + 12 * rows_of f l.last_band)
      (omega arith) (off_right l.side) (omega arith)
    where
      off_right : (side : _) → 20 * l.column + offset side + 4 ≤ 20 * last_column f + 13
      off_right L = let b = i.right in omega arith
      off_right R = let b = i.right in omega arith

  -- the cells of a tile whose corner is at a column and a row
  cells_good : (c b r high : ℕ) → 1 ≤ c → c + 1 < f.columns → base f b + (12 * r + high) ≤ top_side
      → (cs : List Cell) → AllFit high cs
      → (q : Rect) → Member (map (placed (20 * c) (base f b + 12 * r + 0)) cs) q → Good q
  unfolding right_side
  cells_good c b r high h k t [] a q m = absurd m
  cells_good c b r high h k t (x ∷ cs) a q (inl e) = subst Good e (cell_good x a.0)
    where
      cell_good : (x : Cell) → Fits high x → Good (placed (20 * c) (base f b + 12 * r + 0) x)
      cell_good x a =
          let u = a.right in let v = a.top in
          good x.layer (20 * c + x.x0) (base f b + 12 * r + 0 + x.y0) (20 * c + x.x1)
          (base f b + 12 * r + 0 + x.y1) (omega arith) (omega arith) (omega arith)
  cells_good c b r high h k t (x ∷ cs) a q (inr m) = cells_good c b r high h k t cs a.1 q m

  -- where a tile stands beside a line
  beside : (side : _) (b c : ℕ) → LineAt f side b c → (1 ≤ c) × (c + 1 < f.columns) × (b < bands f)
  beside side b c h =
      let i = All-contains (IsLine f) f.lines h.line lawful.lines h.among in
      let p = h.passes.column in let q = h.passes.last in let a = i.column in let d = i.right in let e = i.last in
      (omega arith, omega arith, omega arith)

  some_rows : (b : ℕ) → b < bands f → 1 ≤ rows_of f b
  some_rows b h = lawful.rows b 0 h

  in_row : (b r c : ℕ) → b < bands f → (r ≡ 0) ⊎ SegmentAt f b r c → r < rows_of f b
  in_row b r c h (inl e) = let s = some_rows b h in omega arith
  in_row b r c h (inr s) =
      let i = All-contains (IsSegment f) f.segments s.segment lawful.segments s.among in
      let p = s.crosses.band in let q = s.crosses.row in let k = i.below in
      subst (λ z. r < rows_of f z) p (omega arith)

  row_top : (b r : ℕ) → b < bands f → r < rows_of f b → base f b + (12 * r + 12) ≤ top_side
  row_top b r h k = let t = band_top b h in omega arith

  tile_good : (tile : Tile) (b r c : ℕ) → Stands f tile b r c → tile ≢ Under → (q : Rect)
      → Member (tile_rects f tile b r c) q → Good q
  tile_good TapL b r c s u q m =
      let w = beside L b c s.0 in
      cells_good c b r 12 w.0 w.1 (row_top b r w.2 (in_row b r c w.2 s.1)) (cells TapL) (
        fit 12 _ (omega arith)
            (omega arith) (omega arith),
        tt,
      ) q m
  tile_good TapR b r c s u q m =
      let w = beside R b c s.0 in
      cells_good c b r 12 w.0 w.1 (row_top b r w.2 (in_row b r c w.2 s.1)) (cells TapR) (
        fit 12 _ (omega arith)
            (omega arith) (omega arith),
        tt,
      ) q m
  tile_good Tran b r c s u q m =
      let w = beside L b c s.0 in
      cells_good c b r 12 w.0 w.1 (row_top b r w.2 (in_row b r c w.2 (inr s.2))) (cells Tran) (
        fit 12 _ (omega arith) (omega arith) (omega arith),
        (
          fit 12 _ (omega arith) (omega arith) (omega arith),
          (
            fit 12 _ (omega arith) (omega arith) (omega arith),
            (
              fit 12 _ (omega arith) (omega arith)
                  (omega arith),
              tt,
            ),
          ),
        ),
      ) q m
  tile_good PullUp b r c s u q m =
      let (z, (l, among, stands, e)) = s in
      let i = All-contains (IsLine f) f.lines l lawful.lines among in
      let p = stands.column in let a = i.column in let d = i.right in let g = i.last in
      let h : b < bands f = omega arith in
      let t = band_top b h in
      cells_good c b r 36 (omega arith) (omega arith) (omega arith) (cells PullUp) (
        fit 36 _ (omega arith) (omega arith) (omega arith),
        (
          fit 36 _ (omega arith) (omega arith) (omega arith),
          (
            fit 36 _ (omega arith) (omega arith) (omega arith),
            (
              fit 36 _ (omega arith) (omega arith)
                  (omega arith),
              (
                fit 36 _ (omega arith) (omega arith) (omega arith),
                (
                  fit 36 _ (omega arith)
                      (omega arith) (omega arith),
                  (
                    fit 36 _ (omega arith) (omega arith) (omega arith),
                    (
                      fit 36 _
                          (omega arith) (omega arith) (omega arith),
                      (
                        fit 36 _ (omega arith) (omega arith) (omega arith),
                        (fit 36 _ (omega arith) (omega arith) (omega arith), tt),
                      ),
                    ),
                  ),
                ),
              ),
            ),
          ),
        ),
      ) q m
  tile_good Under b r c s u q m = absurd (u refl)

  covered_member : (rs : List Rect) (l : Layer) (x y : ℤ) → covered rs l x y → (r : Rect) × Member rs r × Covers r l x y
  covered_member [] l x y h = absurd h
  covered_member (r ∷ rs) l x y (inl c) = (r, inl refl, c)
  covered_member (r ∷ rs) l x y (inr h) = let w = covered_member rs l x y h in (w.0, inr w.1, w.2)

  shape_good : (r : Rect) → Member (shape f) r → Good r
  shape_good r (inl e) = subst Good e ground_trunk_good
  shape_good r (inr (inl e)) = subst Good e power_trunk_good
  shape_good r (inr (inr m)) =
      elim (member_append (flat_map (λ b. ground_row f b ∷ power_rail f b ∷ []) (range_with_len 0 (bands f))) (map
      (segment_rect f) f.segments ++ (map (line_rect f) f.lines ++ flat_map (mark_rects f) f.marks)) r m) [
        | inl k ↦ of_bands (member_flat (λ b. ground_row f b ∷ power_rail f b ∷ []) (range_with_len 0 (bands f)) r k)
        | inr k ↦ elim (member_append (map (segment_rect f) f.segments) (map (line_rect f) f.lines ++ flat_map
            (mark_rects f) f.marks) r k) [
              | inl j ↦ (let w = member_map (segment_rect f) f.segments r j in
                  subst Good w.2 (segment_good w.0 (All-contains (IsSegment f) f.segments w.0 lawful.segments
                  (member_contains f.segments w.0 w.1))))
              | inr j ↦ elim (member_append (map (line_rect f) f.lines) (flat_map (mark_rects f) f.marks) r j) [
                | inl i ↦ (let w = member_map (line_rect f) f.lines r i in subst Good w.2 (line_good w.0 (All-contains
                    (IsLine f) f.lines w.0 lawful.lines (member_contains f.lines w.0 w.1))))
                | inr i ↦ (let w = member_flat (mark_rects f) f.marks r i in
                    let c = member_contains f.marks w.0 w.1 in
                    tile_good w.0.tile w.0.band w.0.row w.0.column (All-contains
                    (IsMark f) f.marks w.0 lawful.marks c) (bare w.0 c) r w.2)
              ]
            ]
      ]
    where
      of_bands : (b : ℕ) × Member (range_with_len 0 (bands f)) b × Member
          (ground_row f b ∷ power_rail f b ∷ []) r → Good r
      of_bands (b, i, inl e) = let w = (range_members 0 (bands f) b i).1 in
          subst Good e (ground_row_good b (omega arith))
      of_bands (b, i, inr (inl e)) = let w = (range_members 0 (bands f) b i).1 in subst Good e (power_rail_good b
          (omega arith))
      of_bands (b, i, inr (inr e)) = absurd e

  shape_between : (l : Layer) (x y : ℤ) → covered (shape f) l x y
      → (pos (500 * 7) ≤ℤ x) × (x <ℤ pos (500 * right_side)) × (pos (500 * 0) ≤ℤ y) × (y <ℤ pos (500 * top_side))
  unfolding Good
  shape_between l x y h =
      let w = covered_member (shape f) l x y h in
      within_covers w.0 7 0 right_side top_side (shape_good w.0 w.1) l x y w.2

  far_enough : (x : ℤ) (a b : ℕ) → x <ℤ pos (500 * a) → a ≡ b → x <ℤ pos (500 * b)
  far_enough x a b h e = subst (λ (n : ℕ). x <ℤ pos (500 * n)) e h

  from_bottom : (y : ℤ) → pos (500 * 0) ≤ℤ y → pos 0 ≤ℤ y
  from_bottom y h = omega (arith, ints)

  between : IsAtMost (covered (shape f)) (20 * last_column f + 6) (base f (bands f))
  unfolding right_side top_side
  between =
      at_most (covered (shape f)) 7 (20 * last_column f + 6) (base f (bands f))
      (λ l x y h.
      let s = shape_between l x y h in
      record {
        left = s.0;
        bottom = from_bottom y s.2;
        right = far_enough x right_side (7 + (20 * last_column f + 6)) s.1 (omega arith);
        top = s.3;
      })

pub fabrics_are_between : FabricsAreBetween
fabrics_are_between f lawful bare = between f lawful bare

pub small_fabrics_are_small : SmallFabrics
small_fabrics_are_small cost width f lawful bare s e is =
    let x = between f lawful bare e is in
    let c = s.columns in let three = lawful.columns in
    let h = height_small cost width f s width (omega arith) in
    let h2 : base f (length f.rows) ≤ width * (12 * (cost + 8) + 36) + 24 * (cost + 8) + 96 =
    subst (λ z. base f z ≤ width * (12 * (cost + 8) + 36) + 24 * (cost + 8) + 96) (sym s.count) h in (
      far e.left e.right (20 * last_column f + 6) (20 * (cost + 8)) (omega (arith, c, three)) x.0,
      far e.bottom e.top (base f (length f.rows)) (width * (12 * (cost + 8) + 36) + 24 * (cost + 8) + 96) h2 x.1,
    )
  where
    far : (low high : ℤ) (a b : ℕ) → a ≤ b → high ≤ℤ (low +ℤ pos (500 * a)) → high ≤ℤ (low +ℤ pos (500 * b))
    far low high a b h k = omega (arith, ints)
