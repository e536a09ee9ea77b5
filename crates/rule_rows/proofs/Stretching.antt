-- Long tiles of channels.
use Rattle.std.proofs.Common.{ℕ, ◌≡◌, ◌+◌, ◌<◌, ◌≤◌, inl, inr, refl, sym, ◌∙◌, subst, arith, List, [], ◌∷◌}
use Rattle.std.proofs.Common.{◌++◌, get_or, length}
use Rattle.std.specs.Prelude.{◌↔◌, ℤ, pos, negsuc, ◌+ℤ◌, ◌-ℤ◌, ◌<ℤ◌, ◌≤ℤ◌, unsigned_abs}
use Rattle.std.proofs.lemmas.Bool.{cases_lt}
use Rattle.std.proofs.lemmas.Int.{ints, by_lt_z}
use Rattle.std.proofs.lemmas.List.{get_or_default}
use Rattle.lam_geom.specs.declared.layer.Layer.{Layer}
use Rattle.lam_geom.specs.declared.layer.Layer.TheVariants.{NB}
use Rattle.lam_geom.specs.declared.rect.Rect.{Rect}
use Rattle.lam_geom.specs.Squares.{covered}
use Rattle.lam_geom.specs.Rules.Way.{right}
use Rattle.mask_runs.specs.declared.mask.Mask.TheVariants.{Diffusion}
use Rattle.mask_runs.specs.Colours.{HasColour}
use Rattle.mask_tiles.specs.declared.tile.Tile.{Tile}
use Rattle.mask_tiles.specs.Tiles.{IsTile, InTile, AreTiles, AreWhole}
use Rattle.rule_rows.specs.Channels.{IsChannel}
use Rattle.rule_rows.specs.Gates.{IsLong, IsWide, IsPlain, AreLong, IsTurned}
use Rattle.rule_rows.proofs.Deep.{channel_of, colour_of_channel, colour_two, tile_at}
use Rattle.rule_rows.proofs.Spreading.{covered_more}

abbrev pub no_tile : Tile
no_tile = record { x0 = pos 0; y0 = pos 0; x1 = pos 0; y1 = pos 0; colour = 0 }

abbrev pub rect_of : Tile → Rect
rect_of t = record { layer = NB; x0 = t.x0; y0 = t.y0; x1 = t.x1; y1 = t.y1 }

-- one of the first n tiles is wide and has the square
pub record IsIn (tiles : List Tile) (n : ℕ) (x y : ℤ) : Type 0 where
  pub k : ℕ
  pub below : k < n
  pub is : IsWide (get_or tiles k no_tile)
  pub inside : InTile (get_or tiles k no_tile) x y

pub record AreDrawn (tiles : List Tile) (n : ℕ) (rects : List Rect) : Type 0 where
  pub each : (l : Layer) (x y : ℤ) → covered rects l x y ↔ (l ≡ NB) × IsIn tiles n x y

pub drawn_none : (tiles : List Tile) → AreDrawn tiles 0 []
drawn_none tiles = record { each = λ l x y. (λ h. absurd h, λ h. let b = h.1.below in absurd (omega arith)) }

pub drawn_passed : (tiles : List Tile) (n : ℕ) (rects : List Rect) → (¬ IsWide (get_or tiles n no_tile))
    → AreDrawn tiles n rects → AreDrawn tiles (n + 1) rects
drawn_passed tiles n rects not_wide a = record {
  each = λ l x y. (
    λ h. let g = (a.each l x y).0 h in let i = g.1 in let b = i.below in
        (g.0, record { k = i.k; below = omega arith; is = i.is; inside = i.inside }),
    λ h. let i = h.1 in let b = i.below in elim (cases_lt i.k n) [
      | inl m ↦ (a.each l x y).1 (h.0, record { k = i.k; below = m; is = i.is; inside = i.inside })
      | inr m ↦ absurd (let e : i.k ≡ n = omega arith in
          not_wide (subst (λ z. IsWide (get_or tiles z no_tile)) e i.is))
    ],
  );
}

pub drawn_added : (tiles : List Tile) (n : ℕ) (rects next : List Rect) → IsWide (get_or tiles n no_tile)
    → next ≡ rects ++ rect_of (get_or tiles n no_tile) ∷ [] → AreDrawn tiles n rects → AreDrawn tiles (n + 1) next
drawn_added tiles n rects next wide is a =
    subst (λ z. AreDrawn tiles (n + 1) z) (sym is) (record {
      each = λ l x y. let t = get_or tiles n no_tile in let more = covered_more rects (rect_of t) l x y in (
        λ h. elim (more.0 h) [
          | inl c ↦ (let g = (a.each l x y).0 c in let i = g.1 in let b = i.below in
              (g.0, record { k = i.k; below = omega arith; is = i.is; inside = i.inside }))
          | inr c ↦ (
            sym c.same,
            record {
              k = n;
              below = omega arith;
              is = wide;
              inside = record { left = c.left; right = c.right; bottom = c.bottom; top = c.top };
            },
          )
        ],
        λ h. let i = h.1 in let b = i.below in elim (cases_lt i.k n) [
          | inl m ↦ more.1 (inl ((a.each l x y).1
              (h.0, record { k = i.k; below = m; is = i.is; inside = i.inside })))
          | inr m ↦ (let e : i.k ≡ n = omega arith in
              let j = subst (λ z. InTile (get_or tiles z no_tile) x y) e i.inside in
              more.1 (inr (record { same = sym h.0; left = j.left; right = j.right; bottom = j.bottom; top = j.top })))
        ],
      );
    })

width : (a b : ℤ) → a <ℤ b → 1000 ≤ unsigned_abs (b -ℤ a) → (a +ℤ pos 1000) ≤ℤ b
width a b m h = go (b -ℤ a) refl h
  where
    go : (d : ℤ) → b -ℤ a ≡ d → 1000 ≤ unsigned_abs d → (a +ℤ pos 1000) ≤ℤ b
    go (pos n) e k = omega (arith, ints)
    go (negsuc n) e k = absurd (omega (arith, ints))

is_width : (a b : ℤ) → (a +ℤ pos 1000) ≤ℤ b → 1000 ≤ unsigned_abs (b -ℤ a)
is_width a b h = go (b -ℤ a) refl
  where
    go : (d : ℤ) → b -ℤ a ≡ d → 1000 ≤ unsigned_abs d
    go (pos n) e = omega (arith, ints)
    go (negsuc n) e = absurd (omega (arith, ints))

-- a place of a wide stretch lies in one of two lambda
long_in : (is : ℤ → Type 0) (a b z : ℤ) → (a +ℤ pos 1000) ≤ℤ b → a ≤ℤ z → z <ℤ b
    → ((t : ℤ) → a ≤ℤ t → t <ℤ b → is t) → IsLong is z
long_in is a b z w l m each = by_lt_z b (z +ℤ pos 1000)
    (λ h. record {
      from = b -ℤ pos 1000;
      left = omega (arith, ints);
      right = omega (arith, ints);
      each = λ t p q. each t (omega (arith, ints)) (omega (arith, ints));
    })
    (λ h. record {
      from = z;
      left = omega (arith, ints);
      right = omega (arith, ints);
      each = λ t p q. each t (omega (arith, ints)) (omega (arith, ints));
    })

module _ (shapes : List Rect) (tiles : List Tile) (are : AreTiles shapes Diffusion tiles)
    (whole : AreWhole shapes Diffusion tiles) (plain : IsPlain shapes) where
  -- channels have the colour of any tile of them
  own_colour : (t : Tile) → IsTile shapes Diffusion t → 1 < t.colour → (x y : ℤ) → IsChannel shapes x y
      → HasColour shapes Diffusion t.colour x y
  own_colour t is deep x y c =
      let (k, some, h) = colour_of_channel shapes x y c in
      let row = is.stack.each t.y0 (omega (arith, ints)) is.stack.some in
      let e = colour_two shapes plain k x y h some in
      let f = colour_two shapes plain t.colour t.x0 t.y0 (row.each t.x0 (omega (arith, ints)) row.some) deep in
      subst (λ z. HasColour shapes Diffusion z x y) (e ∙ sym f) h

  -- a stretch of channels through a square of a tile lies in the tile's columns
  span_in : (t : Tile) → IsTile shapes Diffusion t → 1 < t.colour → (x y : ℤ) → InTile t x y → (a b : ℤ) → a ≤ℤ x
      → x <ℤ b → ((z : ℤ) → a ≤ℤ z → z <ℤ b → IsChannel shapes z y) → (t.x0 ≤ℤ a) × (b ≤ℤ t.x1)
  span_in t is deep x y inside a b l m each =
      let row = is.stack.each y inside.bottom inside.top in
      let p = inside.left in let q = inside.right in (
        by_lt_z a t.x0
            (λ h. absurd (row.before (own_colour t is deep (t.x0 +ℤ negsuc 0) y
            (each (t.x0 +ℤ negsuc 0) (omega (arith, ints)) (omega (arith, ints)))))) (λ h. h),
        by_lt_z t.x1 b
            (λ h. absurd (row.after (own_colour t is deep t.x1 y (each t.x1 (omega (arith, ints)) h)))) (λ h. h),
      )

  long_of : (n : ℕ) (x y : ℤ) → n ≤ length tiles → IsIn tiles n x y → IsLong (λ t. IsChannel shapes t y) x
  long_of n x y fit i =
      let b = i.below in
      let t = get_or tiles i.k no_tile in
      let is = are.each i.k no_tile (omega arith) in
      let row = is.stack.each y i.inside.bottom i.inside.top in
      long_in (λ z. IsChannel shapes z y) t.x0 t.x1 x (width t.x0 t.x1 row.some i.is.wide) i.inside.left i.inside.right
      (λ z p q. channel_of shapes t.colour z y (row.each z p q) i.is.deep)

  in_long : (n : ℕ) (x y : ℤ) → length tiles ≤ n → IsLong (λ t. IsChannel shapes t y) x → IsIn tiles n x y
  in_long n x y all g =
      let (t, k, m, e, deep, inside) = tile_at shapes tiles are whole x y (g.each x g.left g.right) in
      let f : get_or tiles k no_tile ≡ t = same_at tiles k t m e in
      let is = subst (IsTile shapes Diffusion) f (are.each k no_tile m) in
      let s = span_in t is deep x y inside g.from (g.from +ℤ pos 1000) g.left g.right g.each in
      let p = s.0 in let q = s.1 in
      record {
        k = k;
        below = omega arith;
        is = subst IsWide (sym f) (record { deep = deep; wide = is_width t.x0 t.x1 (omega (arith, ints)) });
        inside = subst (λ z. InTile z x y) (sym f) inside;
      }
    where
      same_at : (ts : List Tile) (k : ℕ) (t : Tile) → k < length ts → get_or ts k t ≡ t → get_or ts k no_tile ≡ t
      same_at ts k t m e = get_or_default ts k no_tile t m ∙ e

  pub are_long : (n : ℕ) (rects : List Rect) → n ≡ length tiles → AreDrawn tiles n rects
      → AreLong right (IsChannel shapes) rects
  are_long n rects e a = record {
    each = λ l x y. (
      λ h. let g = (a.each l x y).0 h in (g.0, long_of n x y (omega arith) g.1),
      λ h. (a.each l x y).1 (h.0, in_long n x y (omega arith) h.1),
    );
  }

-- ---- exchanged rectangles

pub turned_more : (rs qs next : List Rect) (r : Rect) → IsTurned rs qs
    → next ≡ qs ++ (record { layer = r.layer; x0 = r.y0; y0 = r.x0; x1 = r.y1; y1 = r.x1 }) ∷ []
    → IsTurned (rs ++ r ∷ []) next
turned_more rs qs next r a is = subst (λ z. IsTurned (rs ++ r ∷ []) z) (sym is) (record {
  each = λ l x y.
      let q : Rect = record { layer = r.layer; x0 = r.y0; y0 = r.x0; x1 = r.y1; y1 = r.x1 } in
      let s = covered_more qs q l x y in
      let t = covered_more rs r l y x in (
        λ h. elim (s.0 h) [
          | inl c ↦ t.1 (inl ((a.each l x y).0 c))
          | inr c ↦ t.1 (inr (record {
            same = c.same;
            left = c.bottom;
            right = c.top;
            bottom = c.left;
            top = c.right;
          }))
        ],
        λ h. elim (t.0 h) [
          | inl c ↦ s.1 (inl ((a.each l x y).1 c))
          | inr c ↦ s.1 (inr (record {
            same = c.same;
            left = c.bottom;
            right = c.top;
            bottom = c.left;
            top = c.right;
          }))
        ],
      );
})
