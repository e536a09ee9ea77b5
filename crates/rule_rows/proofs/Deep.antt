-- Channels are the tiles of the mask of diffusion with colours above 1.
use Rattle.std.proofs.Common.{ℕ, ◌≡◌, ◌<◌, ◌⊎◌, inl, inr, refl, sym, ◌∙◌, ap, subst, arith, List, Bool, true, false}
use Rattle.std.proofs.Common.{not, ◌&&◌, get_or, length}
use Rattle.std.specs.Prelude.{ℤ, pos, ◌<ℤ◌, ◌≤ℤ◌, if◌then◌else◌, Option, None, Some}
use Rattle.std.proofs.lemmas.Int.{ints}
use Rattle.std.proofs.lemmas.Bool.{cases_Bool, both_ways, false_from_ne_true, cases_order}
use Rattle.lam_geom.specs.declared.layer.Layer.{Layer}
use Rattle.lam_geom.specs.declared.layer.Layer.TheVariants.{ND, NP, NB, NI}
use Rattle.lam_geom.specs.declared.place.Point.{Point}
use Rattle.lam_geom.specs.declared.rect.Rect.{Rect}
use Rattle.lam_geom.specs.Squares.{covered}
use Rattle.mask_runs.specs.declared.mask.Mask.TheVariants.{Diffusion}
use Rattle.mask_runs.specs.Colours.{has, HasColour}
use Rattle.mask_tiles.specs.declared.tile.Tile.{Tile}
use Rattle.mask_tiles.specs.Tiles.{InTile, Before, AreTiles, AreWhole}
use Rattle.mask_tiles.proofs.SeenLayers.{layers_of}
use Rattle.rule_rows.specs.Channels.{IsChannel, IsFirstDeep}
use Rattle.rule_rows.specs.Gates.{IsPlain}
use Rattle.rule_rows.specs.Firsts.{IsFirstOf}

pub covered_or_not : (shapes : List Rect) (l : Layer) (x y : ℤ) → covered shapes l x y ⊎ (¬ covered shapes l x y)
covered_or_not shapes l x y =
    let s = layers_of shapes x y in
    elim (cases_Bool (has s.0 l)) [
      | inl e ↦ inl ((s.1.each l).0 e)
      | inr e ↦ inr (λ c. both_ways (has s.0 l) e ((s.1.each l).1 c))
    ]

abbrev pub depth : Bool → Bool → Bool → Bool → ℕ
depth nd np nb ni = if nd && np && not nb then (if ni then 3 else 2) else if nd then 1 else 0

deep_bits : (nd np nb ni : Bool) (k : ℕ) → depth nd np nb ni ≡ k → 1 < k
    → (nd ≡ true) × (np ≡ true) × (nb ≡ false)
deep_bits true true false ni k e h = (refl, refl, refl)
deep_bits true true true ni k e h = absurd (omega arith)
deep_bits true false nb ni k e h = absurd (omega arith)
deep_bits false np nb ni k e h = absurd (omega arith)

bits_deep : (nd np nb ni : Bool) → nd ≡ true → np ≡ true → nb ≡ false
    → (k : ℕ) × (1 < k) × (depth nd np nb ni ≡ k)
bits_deep nd np nb true e f g = (3, omega arith, rw (e, f, g) refl)
bits_deep nd np nb false e f g = (2, omega arith, rw (e, f, g) refl)

module _ (shapes : List Rect) where
  pub channel_of : (k : ℕ) (x y : ℤ) → HasColour shapes Diffusion k x y → 1 < k → IsChannel shapes x y
  channel_of k x y h m =
      let s = h.layers in
      let b = deep_bits s.nd s.np s.nb s.ni k h.same m in
      record {
        diffusion = (h.sees.each ND).0 b.0;
        polysilicon = (h.sees.each NP).0 b.1;
        unburied = λ c. both_ways s.nb b.2 ((h.sees.each NB).1 c);
      }

  pub colour_of_channel : (x y : ℤ) → IsChannel shapes x y → (k : ℕ) × (1 < k) × HasColour shapes Diffusion k x y
  colour_of_channel x y c =
      let (s, sees) = layers_of shapes x y in
      let w = bits_deep s.nd s.np s.nb s.ni ((sees.each ND).1 c.diffusion) ((sees.each NP).1 c.polysilicon)
      (false_from_ne_true s.nb (λ e. c.unburied ((sees.each NB).0 e))) in
      (w.0, w.1, record { layers = s; sees = sees; same = w.2 })

  module _ (tiles : List Tile) (are : AreTiles shapes Diffusion tiles) (whole : AreWhole shapes Diffusion tiles) where
    -- a channel lies in a tile of such a colour
    pub tile_at : (x y : ℤ) → IsChannel shapes x y
        → (t : Tile) × (i : ℕ) × (i < length tiles) × (get_or tiles i t ≡ t) × (1 < t.colour) × InTile t x y
    tile_at x y c =
        let (k, some, h) = colour_of_channel x y c in
        let (t, (i, m, e), same, inside) = whole.tile k x y (omega arith) h in
        (t, i, m, e, omega arith, inside)

    pub first_of_tiles : (o : Option Point) → IsFirstDeep tiles o → IsFirstOf (IsChannel shapes) o
    first_of_tiles None none = λ x y c.
        let (t, i, m, e, deep, inside) = tile_at x y c in
        let f = none i t m in let g : (get_or tiles i t).colour ≡ t.colour = ap (λ z. z.colour) e in
        omega arith
    first_of_tiles (Some p) (i, corner) = record {
      here = here;
      least = λ x y before c. least x y before (tile_at x y c);
    }
      where
        no_tile : Tile
        no_tile = record { x0 = pos 0; y0 = pos 0; x1 = pos 0; y1 = pos 0; colour = 0 }

        here : IsChannel shapes p.x p.y
        here =
            let t = get_or tiles i no_tile in
            let is = are.each i no_tile corner.within in
            let row = is.stack.each t.y0 (omega (arith, ints)) is.stack.some in
            let c = channel_of t.colour t.x0 t.y0 (row.each t.x0 (omega (arith, ints)) row.some)
            (corner.deep no_tile) in
            subst (λ x. IsChannel shapes x p.y) (sym (corner.x no_tile))
            (subst (λ y. IsChannel shapes t.x0 y) (sym (corner.y no_tile)) c)

        later : (t : Tile) (x y : ℤ) → (y <ℤ p.y) ⊎ (y ≡ p.y) × (x <ℤ p.x) → InTile t x y
            → (p.y <ℤ t.y0) ⊎ (p.y ≡ t.y0) × (p.x ≤ℤ t.x0) → ⊥
        later t x y (inl h) inside (inl m) = let b = inside.bottom in omega (arith, ints)
        later t x y (inl h) inside (inr (e, m)) = let b = inside.bottom in omega (arith, ints)
        later t x y (inr (f, h)) inside (inl m) = let b = inside.bottom in omega (arith, ints)
        later t x y (inr (f, h)) inside (inr (e, m)) = let b = inside.left in omega (arith, ints)

        not_before : (t : Tile) (j : ℕ) → j < length tiles → get_or tiles j t ≡ t → 1 < t.colour
            → (p.y <ℤ t.y0) ⊎ (p.y ≡ t.y0) × (p.x ≤ℤ t.x0)
        not_before t j m e deep = elim (cases_order j i) [
          | inl same ↦ (
              let at = subst (λ n. get_or tiles n t ≡ t) same e in
              let ex = corner.x t ∙ ap (λ z. z.x0) at in
              let ey = corner.y t ∙ ap (λ z. z.y0) at in
              inr (ey, omega (arith, ints)))
          | inr (inl less) ↦ absurd (
              let f = corner.first j t less in
              let g : (get_or tiles j t).colour ≡ t.colour = ap (λ z. z.colour) e in
              omega arith)
          | inr (inr more) ↦ (
              let o = subst (λ z. Before (get_or tiles i t) z) e (are.ascending i j t more m) in
              let ex = corner.x t in
              let ey = corner.y t in
              elim o [
                | inl h ↦ inl (omega (arith, ints))
                | inr h ↦ (let a = h.0 in let b = h.1 in inr (omega (arith, ints), omega (arith, ints)))
              ])
        ]

        least : (x y : ℤ) → (y <ℤ p.y) ⊎ (y ≡ p.y) × (x <ℤ p.x)
            → (t : Tile) × (i : ℕ) × (i < length tiles) × (get_or tiles i t ≡ t) × (1 < t.colour) × InTile t x y → ⊥
        least x y before (t, j, m, e, deep, inside) = later t x y before inside (not_before t j m e deep)

deep_two : (nd np nb ni : Bool) (k : ℕ) → ni ≡ false → depth nd np nb ni ≡ k → 1 < k → k ≡ 2
deep_two true true false true k n e h = absurd (cc)
deep_two true true false false k n e h = sym e
deep_two true true true ni k n e h = absurd (omega arith)
deep_two true false nb ni k n e h = absurd (omega arith)
deep_two false np nb ni k n e h = absurd (omega arith)

-- without implant all channels have one colour
pub colour_two : (shapes : List Rect) → IsPlain shapes → (k : ℕ) (x y : ℤ) → HasColour shapes Diffusion k x y → 1 < k
    → k ≡ 2
colour_two shapes plain k x y h m =
    let s = h.layers in
    deep_two s.nd s.np s.nb s.ni k (false_from_ne_true s.ni (λ e. plain x y ((h.sees.each NI).0 e))) h.same m
