-- The tiles of the mask of one layer are the strips of the layer.
use Rattle.std.proofs.Common.{ℕ, ◌≡◌, ◌≢◌, ◌+◌, ◌<◌, List, [], ◌∷◌, ◌++◌, map, All, inl, inr, refl, sym, ap, ◌∙◌, subst}
use Rattle.std.proofs.Common.{arith, length, get_or, take}
use Rattle.std.specs.Prelude.{ℤ, pos, negsuc, ◌+ℤ◌, Contains, AllPairs}
use Rattle.std.proofs.lemmas.Bool.{cases_order}
use Rattle.std.proofs.lemmas.Int.{ints}
use Rattle.std.proofs.lemmas.List.{append_assoc, get_or-map, length-map, map-append, take_more}
use Rattle.std.proofs.lemmas.List.Elements.{All-map, All-weaker}
use Rattle.lam_geom.specs.declared.layer.Layer.{Layer}
use Rattle.lam_geom.specs.declared.rect.Rect.{Rect}
use Rattle.lam_geom.specs.Squares.{Covers, covered}
use Rattle.mask_runs.specs.declared.mask.Mask.TheVariants.{Only}
use Rattle.mask_runs.specs.Colours.{HasColour}
use Rattle.mask_tiles.specs.declared.tile.Tile.{Tile}
use Rattle.mask_tiles.specs.Tiles.{IsLongest, IsSpan, IsTile, Before, AreTiles}
use Rattle.mask_tiles.proofs.Longest.{longest_once}
use Rattle.mask_tiles.proofs.SeenLayers.{covered_only, only_covered}
use Rattle.layer_strips.specs.Strips.{IsRun, IsStrip}
use Rattle.layer_strips.specs.Layers.{rect_of, AreStripsOf}
use Rattle.layer_strips.specs.Sweep.{IsSolid, AreApart, strip, no_strip}

-- ---- longest stretches

longest_map : (P Q : ℤ → Type 0) (a b : ℤ) → ((z : ℤ) → P z → Q z) → ((z : ℤ) → Q z → P z) → IsLongest P a b
    → IsLongest Q a b
longest_map P Q a b f g h = record {
  some = h.some;
  each = λ z l m. f z (h.each z l m);
  before = λ q. h.before (g (a +ℤ negsuc 0) q);
  after = λ q. h.after (g b q);
}

-- ---- strips

pub is_solid : (shapes : List Rect) (r : Rect) → IsStrip shapes r → IsSolid r
is_solid shapes r s = let t = s.some in record { wide = (s.each r.y0 (omega (arith, ints)) t).some; tall = t }

-- strips of a layer with a common square are one
same_strip : (shapes : List Rect) (r q : Rect) (l : Layer) (x y : ℤ) → IsStrip shapes r → IsStrip shapes q
    → Covers r l x y
    → Covers q l x y → r ≡ q
same_strip shapes r q l x y s t h k =
    let s' = subst (λ n. IsLongest (IsRun shapes n r.x0 r.x1) r.y0 r.y1) h.same s in
    let t' = subst (λ n. IsLongest (IsRun shapes n q.x0 q.x1) q.y0 q.y1) k.same t in
    let e = longest_once (λ z. covered shapes l z y) r.x0 r.x1 q.x0 q.x1 x (s'.each y h.bottom h.top)
    (t'.each y k.bottom k.top) h.left h.right k.left k.right in
    let u = subst (λ a. IsLongest (IsRun shapes l a q.x1) q.y0 q.y1) (sym e.0) t' in
    let v = subst (λ b. IsLongest (IsRun shapes l r.x0 b) q.y0 q.y1) (sym e.1) u in
    let f = longest_once (IsRun shapes l r.x0 r.x1) r.y0 r.y1 q.y0 q.y1 y s' v h.bottom h.top k.bottom k.top in
    let g : r.layer ≡ q.layer = h.same ∙ sym k.same in
    λ i. record { layer = g i; x0 = e.0 i; y0 = f.0 i; x1 = e.1 i; y1 = f.1 i }

pub are_apart : (shapes strips : List Rect) → All (IsStrip shapes) strips → AllPairs (λ r q. r ≢ q) strips
    → AreApart strips
are_apart shapes strips each once i j l x y m n h k =
    let e = same_strip shapes (strip strips i) (strip strips j) l x y (each i no_strip m) (each j no_strip n) h k in
    elim (cases_order i j) [
      | inl o ↦ o
      | inr o ↦ elim o [ inl p ↦ absurd (once i j no_strip p n e) | inr p ↦ absurd (once j i no_strip p m (sym e)) ]
    ]

-- ---- tiles

module _ (shapes : List Rect) (l : Layer) where
  is_covered : (k : ℕ) (x y : ℤ) → 0 < k → HasColour shapes (Only l) k x y → covered shapes l x y × (k ≡ 1)
  is_covered k x y some c = elim (covered_only shapes l k x y c) [
    | inl on ↦ on
    | inr off ↦ absurd (let none = off.1 in omega (arith, some, none))
  ]

  one_colour : (t : Tile) → IsTile shapes (Only l) t → t.colour ≡ 1
  one_colour t h =
      let s = h.stack.some in
      let row = h.stack.each t.y0 (omega (arith, ints)) s in
      let w = row.some in
      (is_covered t.colour t.x0 t.y0 h.some (row.each t.x0 (omega (arith, ints)) w)).1

  run_of_span : (x0 x1 y : ℤ) → IsSpan shapes (Only l) 1 x0 x1 y → IsRun shapes l x0 x1 y
  run_of_span x0 x1 y h = longest_map (λ x. HasColour shapes (Only l) 1 x y) (λ x. covered shapes l x y) x0 x1
      (λ x c. (is_covered 1 x y (omega arith) c).0) (λ x c. only_covered shapes l x y c) h

  span_of_run : (x0 x1 y : ℤ) → IsRun shapes l x0 x1 y → IsSpan shapes (Only l) 1 x0 x1 y
  span_of_run x0 x1 y h = longest_map (λ x. covered shapes l x y) (λ x. HasColour shapes (Only l) 1 x y) x0 x1
      (λ x c. only_covered shapes l x y c) (λ x c. (is_covered 1 x y (omega arith) c).0) h

  strip_of_tile : (t : Tile) → IsTile shapes (Only l) t → IsStrip shapes (rect_of l t)
  strip_of_tile t h = longest_map (IsSpan shapes (Only l) 1 t.x0 t.x1) (IsRun shapes l t.x0 t.x1) t.y0 t.y1
      (run_of_span t.x0 t.x1) (span_of_run t.x0 t.x1)
      (subst (λ k. IsLongest (IsSpan shapes (Only l) k t.x0 t.x1) t.y0 t.y1) (one_colour t h) h.stack)

  abbrev tile_of : Rect → Tile
  tile_of r = record { x0 = r.x0; y0 = r.y0; x1 = r.x1; y1 = r.y1; colour = 1 }

  tile_of_strip : (r : Rect) → IsStrip shapes r → r.layer ≡ l → IsTile shapes (Only l) (tile_of r)
  tile_of_strip r h e = record {
    some = omega arith;
    stack = longest_map (IsRun shapes l r.x0 r.x1) (IsSpan shapes (Only l) 1 r.x0 r.x1) r.y0 r.y1
        (span_of_run r.x0 r.x1) (run_of_span r.x0 r.x1)
        (subst (λ n. IsLongest (IsRun shapes n r.x0 r.x1) r.y0 r.y1) e h);
  }

  contains_map : (ts : List Tile) (t : Tile) → Contains ts t → Contains (map (rect_of l) ts) (rect_of l t)
  contains_map ts t h = (
    h.0,
    (let m = h.1 in let n = length-map ts (rect_of l) in omega arith),
    get_or-map (rect_of l) ts h.0 t (rect_of l t) h.1 ∙ ap (rect_of l) h.2,
  )

  no_tile : Tile
  no_tile = record { x0 = pos 0; y0 = pos 0; x1 = pos 0; y1 = pos 0; colour = 0 }

  differ : (s t : Tile) → Before s t → rect_of l s ≢ rect_of l t
  differ s t (inl h) e = let f : s.y0 ≡ t.y0 = ap (λ r. r.y0) e in omega (arith, ints)
  differ s t (inr h) e = let f : s.x0 ≡ t.x0 = ap (λ r. r.x0) e in let g = h.1 in omega (arith, ints)

  pub are_strips_of : (ts : List Tile) → AreTiles shapes (Only l) ts → AreStripsOf shapes l (map (rect_of l) ts)
  are_strips_of ts h = record {
    each = All-map (λ r. IsStrip shapes r × (r.layer ≡ l)) (rect_of l) ts
        (All-weaker (IsTile shapes (Only l)) (λ t. IsStrip shapes (rect_of l t) × (l ≡ l))
        (λ t k. (strip_of_tile t k, refl)) ts h.each);
    all = λ r k e. subst (Contains (map (rect_of l) ts)) (ap (λ n. rect_of n (tile_of r)) (sym e))
        (contains_map ts (tile_of r) (h.all (tile_of r) (tile_of_strip r k e)));
    once = λ i j d m n e.
        let len = length-map ts (rect_of l) in
        let a : get_or (map (rect_of l) ts) i d ≡ rect_of l (get_or ts i no_tile) =
        get_or-map (rect_of l) ts i no_tile d (omega arith) in
        let b : get_or (map (rect_of l) ts) j d ≡ rect_of l (get_or ts j no_tile) =
        get_or-map (rect_of l) ts j no_tile d (omega arith) in
        differ (get_or ts i no_tile) (get_or ts j no_tile) (h.ascending i j no_tile m (omega arith)) (sym a ∙ e ∙ b);
  }

pub tiles_more : (l : Layer) (start : List Rect) (ts : List Tile) (i : ℕ) (d : Tile) (old new : List Rect)
    → i < length ts
    → old ≡ start ++ map (rect_of l) (take i ts) → new ≡ old ++ rect_of l (get_or ts i d) ∷ []
    → new ≡ start ++ map (rect_of l) (take (i + 1) ts)
tiles_more l start ts i d old new m h e =
    let f = rect_of l in
    let x = get_or ts i d in
    e ∙ ap (λ s. s ++ f x ∷ []) h ∙ append_assoc start (map f (take i ts)) (f x ∷ [])
    ∙ ap (λ s. start ++ s) (sym (map-append f (take i ts) (x ∷ [])))
    ∙ ap (λ s. start ++ map f s) (sym (take_more ts i d m))
