-- The regions of contact cuts by their tiles.
use Rattle.std.proofs.Common.{ℕ, ◌≡◌, ◌<◌, ◌⊎◌, List, inl, inr, refl, sym, subst, arith, ◌∙◌, get_or}
use Rattle.std.specs.Prelude.{Contains, ℤ, pos, negsuc, ◌+ℤ◌, ◌≤ℤ◌, ◌<ℤ◌, Some, slice_get}
use Rattle.std.proofs.lemmas.Bool.{cases_order}
use Rattle.std.proofs.lemmas.Int.{ints}
use Rattle.std.proofs.lemmas.List.Elements.{All-contains}
use Rattle.std.proofs.lemmas.Option.{same_Some, slice_get_within, get_or_from_slice_get}
use Rattle.mp_base.proofs.Entries.{get_from_contains, contains_from_get}
use Rattle.lam_geom.specs.declared.layer.Layer.TheVariants.{NC}
use Rattle.lam_geom.specs.declared.rect.Rect.{Rect}
use Rattle.lam_geom.specs.Chains.{Chain}
use Rattle.lam_geom.specs.Chains.Chain.{here}
use Rattle.lam_geom.specs.Squares.{Square, Adjoin, ShareEdge, IsIn, covered, RectanglesAreJoined}
use Rattle.lam_geom.specs.Rules.{IsInBlock, IsCut, cut_at, IsSquareCut, IsOddCut}
use Rattle.lam_geom.proofs.Chains.{join_chains, one_link, map_chain, keep_along}
use Rattle.lam_geom.proofs.Adjoins.{adjoin_map}
use Rattle.mask_runs.specs.declared.mask.Mask.TheVariants.{Only}
use Rattle.mask_runs.specs.Colours.{HasColour}
use Rattle.mask_tiles.specs.declared.tile.Tile.{Tile}
use Rattle.mask_tiles.specs.Tiles.{IsLongest, IsSpan, IsTile, InTile, AreTiles, AreWhole, Before}
use Rattle.mask_tiles.specs.Touching.{Beside, TouchAt}
use Rattle.mask_tiles.proofs.Longest.{longest_once}
use Rattle.mask_tiles.proofs.SeenLayers.{covered_only, only_covered}
use Rattle.rule_tiles.specs.Cuts.{IsCutSize, IsOddAt}

share_flip : (x y u v : ℤ) → Beside x y u v → Beside u v x y
share_flip x y u v (inl h) = inl (sym h.0, elim h.1 [ inl e ↦ inr e | inr e ↦ inl e ])
share_flip x y u v (inr h) = inr (sym h.0, elim h.1 [ inl e ↦ inr e | inr e ↦ inl e ])

-- tiles come in order, so one is not before itself
not_before_itself : (t : Tile) → ¬ Before t t
not_before_itself t (inl h) = omega (arith, ints)
not_before_itself t (inr h) = let g = h.1 in omega (arith, ints)

module _ (shapes : List Rect) (tiles : List Tile) (are : AreTiles shapes (Only NC) tiles)
    (whole : AreWhole shapes (Only NC) tiles) where
  abbrev on : ℤ → ℤ → Type 0
  on = covered shapes NC

  colour_one : (k : ℕ) (x y : ℤ) → 0 < k → HasColour shapes (Only NC) k x y → on x y × (k ≡ 1)
  colour_one k x y some c = elim (covered_only shapes NC k x y c) [
    | inl o ↦ o
    | inr off ↦ absurd (let none = off.1 in omega (arith, some, none))
  ]

  coloured : (t : Tile) (x y : ℤ) → IsTile shapes (Only NC) t → InTile t x y → HasColour shapes (Only NC) t.colour x y
  coloured t x y h i = (h.stack.each y i.bottom i.top).each x i.left i.right

  pub tile_on : (t : Tile) (x y : ℤ) → IsTile shapes (Only NC) t → InTile t x y → on x y
  tile_on t x y h i = (colour_one t.colour x y h.some (coloured t x y h i)).0

  pub tile_over : (x y : ℤ) → on x y → (t : Tile) × Contains tiles t × InTile t x y
  tile_over x y c =
      let g = whole.tile 1 x y (omega arith) (only_covered shapes NC x y c) in (g.0, g.1, g.3)

  pub corner_in : (t : Tile) → IsTile shapes (Only NC) t → InTile t t.x0 t.y0
  corner_in t h =
      let tall = h.stack.some in
      let wide = (h.stack.each t.y0 (omega (arith, ints)) tall).some in
      record { left = omega (arith, ints); right = wide; bottom = omega (arith, ints); top = tall }

  -- tiles with a common square are one
  one_tile : (t u : Tile) (x y : ℤ) → IsTile shapes (Only NC) t → IsTile shapes (Only NC) u → InTile t x y
      → InTile u x y → t ≡ u
  one_tile t u x y h k i j =
      let c = colour_one t.colour x y h.some (coloured t x y h i) in
      let d = colour_one u.colour x y k.some (coloured u x y k j) in
      let same : t.colour ≡ u.colour = c.1 ∙ sym d.1 in
      let s = h.stack in
      let s' = subst (λ n. IsLongest (IsSpan shapes (Only NC) n u.x0 u.x1) u.y0 u.y1) (sym same) k.stack in
      let e = longest_once (λ z. HasColour shapes (Only NC) t.colour z y) t.x0 t.x1 u.x0 u.x1 x
      (s.each y i.bottom i.top)
      (s'.each y j.bottom j.top) i.left i.right j.left j.right in
      let v = subst (λ a. IsLongest (IsSpan shapes (Only NC) t.colour a u.x1) u.y0 u.y1) (sym e.0) s' in
      let w = subst (λ b. IsLongest (IsSpan shapes (Only NC) t.colour t.x0 b) u.y0 u.y1) (sym e.1) v in
      let f = longest_once (IsSpan shapes (Only NC) t.colour t.x0 t.x1) t.y0 t.y1 u.y0 u.y1 y s w i.bottom i.top
      j.bottom j.top in
      λ p. record { x0 = e.0 p; y0 = f.0 p; x1 = e.1 p; y1 = f.1 p; colour = same p }

  is_tile : (i : ℕ) (t : Tile) → slice_get tiles i ≡ Some t → IsTile shapes (Only NC) t
  is_tile i t e = All-contains (IsTile shapes (Only NC)) tiles t are.each (contains_from_get tiles i t e)

  -- a tile at a lower number isn't the one at a higher number
  apart : (i j : ℕ) (t u : Tile) → i < j → slice_get tiles i ≡ Some t → slice_get tiles j ≡ Some u → ¬ (t ≡ u)
  apart i j t u o a b e =
      let l = slice_get_within tiles j u b in
      let p = are.ascending i j t o l in
      let q : Before t u = subst (λ z. Before z u) (get_or_from_slice_get tiles i t t a)
      (subst (λ z. Before (get_or tiles i t) z) (get_or_from_slice_get tiles j u t b) p) in
      not_before_itself t (subst (Before t) (sym e) q)

  -- ---- a cut that is a block is a tile

  module _ (x y a b : ℤ) (sq : IsSquareCut (covered shapes) x y a b) where
    inside : (p q : ℤ) → IsInBlock a b 1000 p q → on p q
    inside p q i = ((sq p q).1 i).0.1

    beyond : (p q u v : ℤ) → IsInBlock a b 1000 p q → on u v → ShareEdge (cut_at p q) (cut_at u v)
        → IsInBlock a b 1000 u v
    beyond p q u v i c e =
        let m = (sq p q).1 i in
        (sq u v).0 (
          (refl, c),
          join_chains m.1 (one_link (record {
            from = m.0;
            to = (refl, c);
            same = refl;
            beside = e;
          })),
        )

    abbrev block : Tile
    block = record { x0 = a; y0 = b; x1 = a +ℤ pos 1000; y1 = b +ℤ pos 1000; colour = 1 }

    row : (z : ℤ) → b ≤ℤ z → z <ℤ (b +ℤ pos 1000) → IsSpan shapes (Only NC) 1 a (a +ℤ pos 1000) z
    row z l m = record {
      some = omega (arith, ints);
      each = λ p f g. only_covered shapes NC p z (inside p z (record { left = f; right = g; bottom = l; top = m }));
      before = λ h.
          let c = (colour_one 1 (a +ℤ negsuc 0) z (omega arith) h).0 in
          let i = beyond a z (a +ℤ negsuc 0) z
          (record { left = omega (arith, ints); right = omega (arith, ints); bottom = l; top = m }) c
          (inl (refl, inr (omega (arith, ints)))) in
          let g = i.left in
          omega (arith, ints);
      after = λ h.
          let c = (colour_one 1 (a +ℤ pos 1000) z (omega arith) h).0 in
          let i = beyond (a +ℤ pos 999) z (a +ℤ pos 1000) z
          (record { left = omega (arith, ints); right = omega (arith, ints); bottom = l; top = m }) c
          (inl (refl, inl (omega (arith, ints)))) in
          let g = i.right in
          omega (arith, ints);
    }

    block_tile : IsTile shapes (Only NC) block
    block_tile = record {
      some = omega arith;
      stack = record {
        some = omega (arith, ints);
        each = row;
        before = λ h.
            let c = (colour_one 1 a (b +ℤ negsuc 0) (omega arith) (h.each a (omega (arith, ints)) h.some)).0 in
            let i = beyond a b a (b +ℤ negsuc 0)
            (record {
              left = omega (arith, ints);
              right = omega (arith, ints);
              bottom = omega (arith, ints);
              top = omega (arith, ints);
            }) c (inr (refl, inr (omega (arith, ints)))) in
            let g = i.bottom in
            omega (arith, ints);
        after = λ h.
            let c = (colour_one 1 a (b +ℤ pos 1000) (omega arith) (h.each a (omega (arith, ints)) h.some)).0 in
            let i = beyond a (b +ℤ pos 999) a (b +ℤ pos 1000)
            (record {
              left = omega (arith, ints);
              right = omega (arith, ints);
              bottom = omega (arith, ints);
              top = omega (arith, ints);
            }) c (inr (refl, inl (omega (arith, ints)))) in
            let g = i.top in
            omega (arith, ints);
      };
    }

    in_block : (p q : ℤ) → IsInBlock a b 1000 p q → InTile block p q
    in_block p q i = record { left = i.left; right = i.right; bottom = i.bottom; top = i.top }

    from_block : (p q : ℤ) → InTile block p q → IsInBlock a b 1000 p q
    from_block p q i = record { left = i.left; right = i.right; bottom = i.bottom; top = i.top }

    pub not_odd : (i : ℕ) (t : Tile) → slice_get tiles i ≡ Some t → InTile t x y → ¬ IsOddAt tiles i
    not_odd i t at h odd =
        let it = is_tile i t at in
        let c = tile_on t x y it h in
        let e : t ≡ block = one_tile t block x y it block_tile h (in_block x y ((sq x y).0 ((refl, c), here))) in
        let move : (u : Tile) (p q p' q' : ℤ) → IsTile shapes (Only NC) u → InTile t p q → InTile u p' q'
        → Beside p q p' q' → t ≡ u =
        λ u p q p' q' iu a b s. one_tile t u p' q' it iu (subst (λ z. InTile z p' q') (sym e)
        (in_block p' q'
        (beyond p q p' q' (from_block p q (subst (λ z. InTile z p q) e a)) (tile_on u p' q' iu b) s))) b in
        elim odd [
          | inl w ↦ w.2 (subst IsCutSize (same_Some t w.0 (sym at ∙ w.1))
              (subst IsCutSize (sym e) (record { wide = refl; tall = refl })))
          | inr w ↦ elim w.1 [
            | inl o ↦ (let k = o.touch in
                let f : o.first ≡ t = same_Some o.first t (sym o.at_first ∙ at) in
                apart i w.0 t o.second o.order at o.at_second
                (move o.second k.x k.y k.u k.v (is_tile w.0 o.second o.at_second)
                (subst (λ z. InTile z k.x k.y) f k.in_first) k.in_second k.beside))
            | inr o ↦ (let k = o.touch in
                let f : o.second ≡ t = same_Some o.second t (sym o.at_second ∙ at) in
                apart w.0 i o.first t o.order o.at_first at
                (sym (move o.first k.u k.v k.x k.y (is_tile w.0 o.first o.at_first)
                (subst (λ z. InTile z k.u k.v) f k.in_second) k.in_first (share_flip k.x k.y k.u k.v k.beside))))
          ]
        ]

  pub odd_cut : (i : ℕ) (t : Tile) (x y : ℤ) → slice_get tiles i ≡ Some t → InTile t x y → IsOddAt tiles i
      → IsOddCut (covered shapes) x y
  odd_cut i t x y at h odd = record {
    here = tile_on t x y (is_tile i t at) h;
    odd = λ a b sq. not_odd x y a b sq i t at h odd;
  }

  -- ---- a tile alone of the right size is a region

  module _ (joined : RectanglesAreJoined) (i : ℕ) (t : Tile) (at : slice_get tiles i ≡ Some t) (size : IsCutSize t)
      (alone : (j : ℕ) → ¬ (TouchAt tiles i j ⊎ TouchAt tiles j i)) where
    to_block : (p q : ℤ) → InTile t p q → IsInBlock t.x0 t.y0 1000 p q
    to_block p q h =
        let w = size.wide in
        let v = size.tall in
        let r = h.right in
        let o = h.top in
        record { left = h.left; right = omega (arith, ints); bottom = h.bottom; top = omega (arith, ints) }

    of_block : (p q : ℤ) → IsInBlock t.x0 t.y0 1000 p q → InTile t p q
    of_block p q h =
        let w = size.wide in
        let v = size.tall in
        let r = h.right in
        let o = h.top in
        record { left = h.left; right = omega (arith, ints); bottom = h.bottom; top = omega (arith, ints) }

    stays : (s r : Square) → Adjoin (IsCut (covered shapes)) s r → IsInBlock t.x0 t.y0 1000 s.x s.y
        → IsInBlock t.x0 t.y0 1000 r.x r.y
    stays s r j h =
        let g = tile_over r.x r.y j.to.1 in
        let n = get_from_contains tiles g.0 g.1 in
        elim (cases_order i n.0) [
          | inl e ↦ (
              let f : t ≡ g.0 = same_Some t g.0 (sym at ∙ subst (λ k. slice_get tiles k ≡ Some g.0) (sym e) n.1) in
              to_block r.x r.y (subst (λ z. InTile z r.x r.y) (sym f) g.2))
          | inr o ↦ absurd (alone n.0 (elim o [
            | inl l ↦ inl (record {
              order = l;
              first = t;
              second = g.0;
              at_first = at;
              at_second = n.1;
              touch = record {
                x = s.x;
                y = s.y;
                u = r.x;
                v = r.y;
                in_first = of_block s.x s.y h;
                in_second = g.2;
                beside = j.beside;
              };
            })
            | inr l ↦ inr (record {
              order = l;
              first = g.0;
              second = t;
              at_first = n.1;
              at_second = at;
              touch = record {
                x = r.x;
                y = r.y;
                u = s.x;
                v = s.y;
                in_first = g.2;
                in_second = of_block s.x s.y h;
                beside = share_flip s.x s.y r.x r.y j.beside;
              };
            })
          ]))
        ]

    abbrev rect : Rect
    rect = record { layer = NC; x0 = t.x0; y0 = t.y0; x1 = t.x1; y1 = t.y1 }

    in_rect : (p q : ℤ) → InTile t p q → IsIn rect (cut_at p q)
    in_rect p q h = record { same = refl; left = h.left; right = h.right; bottom = h.bottom; top = h.top }

    rect_cut : (s : Square) → IsIn rect s → IsCut (covered shapes) s
    rect_cut s h =
        let m : InTile t s.x s.y = record { left = h.left; right = h.right; bottom = h.bottom; top = h.top } in
        (sym h.same, tile_on t s.x s.y (is_tile i t at) m)

    pub square_cut : (x y : ℤ) → InTile t x y → IsSquareCut (covered shapes) x y t.x0 t.y0
    square_cut x y h p q =
        let back : IsInBlock t.x0 t.y0 1000 p q
        → IsCut (covered shapes) (cut_at p q)
        × Chain (Adjoin (IsCut (covered shapes))) (cut_at x y) (cut_at p q) =
        λ b. let m = of_block p q b in (
          (refl, tile_on t p q (is_tile i t at) m),
          map_chain (adjoin_map (IsIn rect) (IsCut (covered shapes)) rect_cut)
              (joined rect (cut_at x y) (cut_at p q) (in_rect x y h) (in_rect p q m)),
        ) in
        (λ c. keep_along (λ s. IsInBlock t.x0 t.y0 1000 s.x s.y) stays c.1 (to_block x y h), back)

-- a region is one block
pub one_square : (shapes : List Rect) (x y a b c d : ℤ) → IsSquareCut (covered shapes) x y a b
    → IsSquareCut (covered shapes) x y c d → (a ≡ c) × (b ≡ d)
one_square shapes x y a b c d s t =
    let e = (t a b).0 ((s a b).1 (first a b)) in
    let f = (s c d).0 ((t c d).1 (first c d)) in
    let el = e.left in
    let eb = e.bottom in
    let fl = f.left in
    let fb = f.bottom in
    (omega (arith, ints), omega (arith, ints))
  where
    first : (u v : ℤ) → IsInBlock u v 1000 u v
    first u v = record {
      left = omega (arith, ints);
      right = omega (arith, ints);
      bottom = omega (arith, ints);
      top = omega (arith, ints);
    }
