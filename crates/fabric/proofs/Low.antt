-- Heights fit.
use Rattle.std.proofs.Common.{◌++◌, ◌-◌, ℕ, zero, suc, ◌≡◌, ◌+◌, ◌*◌, ◌^◌, ◌<◌, ◌≤◌, inl, inr, refl, sym, ◌∙◌, ap}
use Rattle.std.proofs.Common.{arith, Bool, true, false, ◌&&◌, leb, eqb, List, [], ◌∷◌, map, length, get_or}
use Rattle.std.specs.Prelude.{All, cond, ℤ, pos, negsuc, ◌+ℤ◌, ◌*ℤ◌, ◌≤ℤ◌, flat_map}
use Rattle.std.specs.List.{range_with_len, list_all}
use Rattle.std.proofs.lemmas.List.{append_assoc, append-nil}
use Rattle.lam_geom.specs.declared.layer.Layer.{Layer}
use Rattle.lam_geom.specs.declared.layer.Layer.TheVariants.{NM}
use Rattle.lam_geom.specs.declared.rect.Rect.{Rect}
use Rattle.fabric.specs.Plan.{Plan, bands, rows_of, IsFabric, IsMark}
use Rattle.fabric.specs.declared.thing.Mark.{Mark}
use Rattle.fabric.proofs.Lying.{lies, RowOf}
use Rattle.fabric.specs.Shape.{base, lambdas, last_column, ground_row, power_rail, band_rects, placed, lift}
use Rattle.fabric.specs.Room.{IsRoomy}
use Rattle.fabric.specs.Drawing.{AreBases, IsSmall, placed_rect}
use Rattle.std.proofs.lemmas.Int.{ints}
use mir.Syntax.{w64}
use mir.Val.{to_z, of_z}
use Rattle.std.proofs.lemmas.Bool.{and_parts, leb-true}
use Rattle.tile_cells.specs.declared.tile.Tile.{Tile}
use Rattle.tile_cells.specs.declared.tile.Tile.TheVariants.{TapL, TapR, Tran, PullUp, Under}
use Rattle.tile_cells.specs.Tiles.{Cell, cells, in_lambda}
use Rattle.fabric.proofs.Bases.{bands_lie, top_low}

-- a row of a band lies below the top
pub row_low : (f : Plan) (bases : List ℕ) (b r : ℕ) → AreBases f bases → b < bands f → r ≤ rows_of f b
    → get_or bases b 0 + 12 * r + 36 < 1_073_741_824
row_low f bases b r a h k =
    let e = a.each b (omega arith) in
    let l = a.low in
    let z = bands_lie f b (bands f) in
    omega arith

pub next_base : (f : Plan) (rows : List ℕ) (at i : ℕ) → rows ≡ f.rows → IsRoomy f → at ≡ base f i → i < length rows
    → at + (12 * get_or rows i 0 + 36) < 2 ^ 32
next_base f rows at i e r g h =
    let n : length rows ≡ length f.rows = ap length e in
    let k = top_low f r (suc i) (omega arith) in
    let m : get_or rows i 0 ≡ rows_of f i = ap (λ z. get_or z i 0) e in
    omega arith

pub all_bases : (f : Plan) (rows bases : List ℕ) (i : ℕ) → rows ≡ f.rows → IsRoomy f → length bases ≡ i + 1
    → ((b : ℕ) → b ≤ i → get_or bases b 0 ≡ base f b) → i ≡ length rows → AreBases f bases
all_bases f rows bases i e r n h k =
    let m : length rows ≡ length f.rows = ap length e in
    record { as_many = omega arith; each = λ b l. h b (omega arith); low = top_low f r (bands f) (omega arith) }

pub base_low : (f : Plan) (bases : List ℕ) (b : ℕ) → AreBases f bases → b < length bases
    → get_or bases b 0 < 1_073_741_824
base_low f bases b a h =
    let n = a.as_many in
    let e = a.each b (omega arith) in
    let l = a.low in
    let z = bands_lie f b (bands f) in
    omega arith

same_lambdas : (l : Layer) (a b c d a2 b2 c2 d2 : ℕ) → a ≡ a2 → b ≡ b2 → c ≡ c2 → d ≡ d2
    → lambdas l a b c d ≡ lambdas l a2 b2 c2 d2
same_lambdas l a b c d a2 b2 c2 d2 e g h k = λ i. lambdas l (e i) (g i) (h i) (k i)

flat_range : {A : Type 0} (g : ℕ → List A) (a n : ℕ) → flat_map g (range_with_len a (suc n)) ≡ flat_map g
    (range_with_len a n) ++ g (a + n)
flat_range g a zero = append-nil (g a) ∙ ap g (no_more a)
  where
    no_more : (a : ℕ) → a ≡ a + 0
    no_more a = omega arith
flat_range g a (suc n) = ap (λ z. g a ++ z) (flat_range g (a + 1) n)
    ∙ sym (append_assoc (g a) (flat_map g (range_with_len (a + 1) n)) (g (a + 1 + n)))
    ∙ ap (λ z. (g a ++ flat_map g (range_with_len (a + 1) n)) ++ g z) (one_on a n)
  where
    one_on : (a n : ℕ) → a + 1 + n ≡ a + suc n
    one_on a n = omega arith

-- one band more is drawn
pub band_drawn : (f : Plan) (bases : List ℕ) (b last : ℕ) → AreBases f bases → b < length bases - 1
    → last ≡ last_column f → (start was more new : List Rect) (r q : Rect)
    → was ≡ start ++ flat_map (band_rects f) (range_with_len 0 b) → more ≡ was ++ r ∷ []
    → new ≡ more ++ q ∷ []
    → r ≡ lambdas NM 7 (get_or bases b 0 + 6) (20 * last) (get_or bases b 0 + 6 + 4)
    → q ≡ lambdas NM 20 (get_or bases (b + 1) 0 - 9) (20 * last + 13) (get_or bases (b + 1) 0 - 9 + 4)
    → new ≡ start ++ flat_map (band_rects f) (range_with_len 0 (b + 1))
band_drawn f bases b last a h e start was more new r q w m n er eq =
    let k = a.as_many in
    let e0 = a.each b (omega arith) in
    let e1 = a.each (b + 1) (omega arith) in
    let s : base f (b + 1) ≡ base f b + (12 * rows_of f b + 36) = ap (base f) (one_more b) in
    let g0 : r ≡ ground_row f b = er ∙ same_lambdas NM 7 (get_or bases b 0 + 6) (20 * last) (get_or bases b 0 + 6 + 4) 7
    (base f b + 6) (20 * last_column f) (base f b + 10) refl (omega arith) (omega arith) (omega arith) in
    let g1 : q ≡ power_rail f b = eq ∙ same_lambdas NM 20 (get_or bases (b + 1) 0 - 9) (20 * last + 13)
    (get_or bases (b + 1) 0 - 9 + 4) 20 (base f b + 12 * rows_of f b + 27) (20 * last_column f + 13)
    (base f b + 12 * rows_of f b + 31) refl (omega arith) (omega arith) (omega arith) in
    let t : new ≡ was ++ (r ∷ q ∷ []) = n ∙ ap (λ z. z ++ q ∷ []) m ∙ append_assoc was (r ∷ []) (q ∷ []) in
    let u : new ≡ (start ++ flat_map bands_ (range_with_len 0 b)) ++ bands_ b = t ∙ (λ i. w i ++ (g0 i ∷ g1 i ∷ [])) in
    u ∙ append_assoc start (flat_map bands_ (range_with_len 0 b)) (bands_ b)
    ∙ ap (λ z. start ++ z)
    (sym (flat_range bands_ 0 b ∙ ap (λ z. flat_map bands_ (range_with_len 0 b) ++ bands_ z) (plain b)))
    ∙ ap (λ z. start ++ flat_map bands_ (range_with_len 0 z)) (sym (one_more b))
  where
    bands_ : ℕ → List Rect
    bands_ = λ b. ground_row f b ∷ power_rail f b ∷ []

    one_more : (n : ℕ) → n + 1 ≡ suc n
    one_more n = omega arith

    plain : (n : ℕ) → 0 + n ≡ n
    plain n = omega arith

abbrev in_36 : Cell → Bool
in_36 k = leb k.x0 36 && (leb k.y0 36 && (leb k.x1 36 && leb k.y1 36))

small_cells : (ks : List Cell) → list_all in_36 ks ≡ true → All IsSmall (map in_lambda ks)
small_cells [] e i d h = absurd (omega arith)
small_cells (k ∷ ks) e zero d h =
    let a = and_parts (in_36 k) (list_all in_36 ks) e in
    let b = and_parts (leb k.x0 36) (leb k.y0 36 && (leb k.x1 36 && leb k.y1 36)) a.0 in
    let c = and_parts (leb k.y0 36) (leb k.x1 36 && leb k.y1 36) b.1 in
    let g = and_parts (leb k.x1 36) (leb k.y1 36) c.1 in
    let b0 = leb-true k.x0 36 b.0 in let c0 = leb-true k.y0 36 c.0 in let g0 = leb-true k.x1 36 g.0 in
    let g1 = leb-true k.y1 36 g.1 in
    record {
      x0 = (omega (arith, ints), omega (arith, ints));
      y0 = (omega (arith, ints), omega (arith, ints));
      x1 = (omega (arith, ints), omega (arith, ints));
      y1 = (omega (arith, ints), omega (arith, ints));
    }
small_cells (k ∷ ks) e (suc i) d h = small_cells ks (and_parts (in_36 k) (list_all in_36 ks) e).1 i d (omega arith)

-- the rectangles of tiles are small
pub small_tile : (t : Tile) → All IsSmall (map in_lambda (cells t))
small_tile TapL = small_cells (cells TapL) refl
small_tile TapR = small_cells (cells TapR) refl
small_tile Tran = small_cells (cells Tran) refl
small_tile PullUp = small_cells (cells PullUp) refl
small_tile Under = small_cells (cells Under) refl

pub placed_cells : (x y : ℕ) (ks : List Cell) → map (placed_rect x y) (map in_lambda ks) ≡ map (placed x y) ks
placed_cells x y [] = refl
placed_cells x y (k ∷ ks) = let e = placed_cells x y ks in λ i. placed x y k ∷ e i

-- what the code computes for a coordinate of a tile
pub coordinate : (x : ℕ) (k from : ℤ) → x < 2 ^ 32 → (pos 0 ≤ℤ k) × (k ≤ℤ pos 36) → from ≡ pos x
    → to_z w64 (of_z w64 (pos 500 *ℤ to_z w64 (of_z w64 (to_z w64 (of_z w64 from) +ℤ to_z w64 (of_z w64 k))))) ≡ pos
    500 *ℤ (pos x +ℤ k)
coordinate x (negsuc n) from h g e = let g0 = g.0 in absurd (omega (arith, ints))
coordinate x (pos n) from h g e =
    let g1 = g.1 in
    let a : to_z w64 (of_z w64 from) ≡ pos x = ap (λ z. to_z w64 (of_z w64 z)) e ∙ omega (arith, ints) in
    let b : to_z w64 (of_z w64 (pos n)) ≡ pos n = omega (arith, ints) in
    let c : to_z w64 (of_z w64 (pos (x + n))) ≡ pos (x + n) = omega (arith, ints) in
    let d : to_z w64 (of_z w64 (pos (500 * (x + n)))) ≡ pos (500 * (x + n)) = omega (arith, ints) in
    ap (λ z. to_z w64 (of_z w64 (pos 500 *ℤ to_z w64 (of_z w64 z)))) (λ i. a i +ℤ b i)
    ∙ ap (λ z. to_z w64 (of_z w64 (pos 500 *ℤ z))) c ∙ d

-- a mark lies below the top
pub mark_low : (f : Plan) (bases : List ℕ) (m : Mark) → AreBases f bases → IsFabric f → IsMark f m → IsRoomy f
    → (get_or bases m.band 0 + 12 * m.row + 36 < 1_073_741_824) × (m.column < 16_777_216)
mark_low f bases m a w i r =
    let l = lies f w m.tile m.band m.row m.column i in
    let c = l.column in let q = r.columns_fit in
    (row_low f bases m.band m.row a l.band (row_at_most m.tile l.row), omega arith)
  where
    row_at_most : (t : Tile) → RowOf f t m.band m.row → m.row ≤ rows_of f m.band
    row_at_most TapL h = omega arith
    row_at_most TapR h = omega arith
    row_at_most Tran h = omega arith
    row_at_most PullUp h = omega arith
    row_at_most Under (inl h) = omega arith
    row_at_most Under (inr h) = omega arith

pub lift_low : (f : Plan) (t : Tile) (b r : ℕ) → lift f t b r ≤ 21
lift_low f TapL b r = omega arith
lift_low f TapR b r = omega arith
lift_low f Tran b r = omega arith
lift_low f PullUp b r = omega arith
lift_low f Under b r = by_test (eqb r (rows_of f b))
  where
    by_test : (z : Bool) → cond z 21 0 ≤ 21
    by_test true = omega arith
    by_test false = omega arith
