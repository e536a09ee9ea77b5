-- Tiles of one mask have no square in common.
use Rattle.std.proofs.Common.{◌≡◌, sym, subst, arith, List}
use Rattle.std.specs.Prelude.{ℤ, negsuc, ◌+ℤ◌, ◌≤ℤ◌, ◌<ℤ◌}
use Rattle.std.proofs.lemmas.Int.{ints, by_lt_z}
use Rattle.lam_geom.specs.declared.rect.Rect.{Rect}
use Rattle.mask_runs.specs.declared.mask.Mask.{Mask}
use Rattle.mask_runs.specs.Colours.{HasColour}
use Rattle.mask_runs.specs.Laws.{OneColour}
use Rattle.mask_tiles.specs.declared.tile.Tile.{Tile}
use Rattle.mask_tiles.specs.Tiles.{IsLongest, IsSpan, IsTile, InTile}
use Rattle.mask_tiles.proofs.Longest.{longest_once}

-- the one does not begin before another that has a place in common
not_before : (Is : ℤ → Type 0) (a0 a1 b0 b1 x : ℤ) → IsLongest Is a0 a1 → IsLongest Is b0 b1 → a0 ≤ℤ x → x <ℤ a1
    → b0 ≤ℤ x → x <ℤ b1 → b0 ≤ℤ a0
not_before Is a0 a1 b0 b1 x s t p q r u = by_lt_z a0 b0
    (λ l. absurd (t.before (s.each (b0 +ℤ negsuc 0) (omega (arith, ints)) (omega (arith, ints)))))
    (λ l. l)

-- nor does it end after that
not_after : (Is : ℤ → Type 0) (a0 a1 b0 b1 x : ℤ) → IsLongest Is a0 a1 → IsLongest Is b0 b1 → a0 ≤ℤ x → x <ℤ a1
    → b0 ≤ℤ x → x <ℤ b1 → a1 ≤ℤ b1
not_after Is a0 a1 b0 b1 x s t p q r u = by_lt_z b1 a1
    (λ l. absurd (t.after (s.each b1 (omega (arith, ints)) (omega (arith, ints)))))
    (λ l. l)

pub tile_once : OneColour → (shapes : List Rect) (mask : Mask) (s t : Tile) (x y : ℤ) → IsTile shapes mask s
    → IsTile shapes mask t → InTile s x y → InTile t x y → s ≡ t
tile_once one shapes mask s t x y hs ht is it =
    let ss = hs.stack.each y is.bottom is.top in
    let st = ht.stack.each y it.bottom it.top in
    let k : s.colour ≡ t.colour =
    one shapes mask s.colour t.colour x y (ss.each x is.left is.right) (st.each x it.left it.right) in
    let at : IsLongest (IsSpan shapes mask s.colour t.x0 t.x1) t.y0 t.y1 =
    subst (λ c. IsLongest (IsSpan shapes mask c t.x0 t.x1) t.y0 t.y1) (sym k) ht.stack in
    let e = longest_once (λ x. HasColour shapes mask s.colour x y) s.x0 s.x1 t.x0 t.x1 x ss
    (at.each y it.bottom it.top) is.left is.right it.left it.right in
    let wide : IsLongest (IsSpan shapes mask s.colour s.x0 s.x1) t.y0 t.y1 =
    subst (λ a. IsLongest (IsSpan shapes mask s.colour a s.x1) t.y0 t.y1) (sym e.0)
    (subst (λ b. IsLongest (IsSpan shapes mask s.colour t.x0 b) t.y0 t.y1) (sym e.1) at) in
    let f = longest_once
    (IsSpan shapes mask s.colour s.x0 s.x1) s.y0 s.y1 t.y0 t.y1 y hs.stack wide is.bottom is.top it.bottom it.top in
    λ i. record { x0 = e.0 i; y0 = f.0 i; x1 = e.1 i; y1 = f.1 i; colour = k i }
