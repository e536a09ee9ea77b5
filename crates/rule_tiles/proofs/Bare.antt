-- Diffusion that polysilicon doesn't cross.
use Rattle.std.proofs.Common.{ℕ, ◌≡◌, List, ◌++◌, map, inl, inr, refl, sym, ap, subst, arith, ◌∙◌}
use Rattle.std.proofs.Common.{get_or, Bool, true, false, true≢false, filter}
use Rattle.std.specs.Prelude.{◌↔◌, ◌&&◌, not, if◌then◌else◌, nat_eq, All, AllPairs, ℤ, pos}
use Rattle.std.proofs.lemmas.Int.{ints}
use Rattle.std.proofs.lemmas.Bool.{eqb-true}
use Rattle.std.proofs.lemmas.List.{get_or-map, length-map}
use Rattle.std.proofs.lemmas.List.Elements.{All-contains}
use Rattle.std.proofs.lemmas.List.Kept.{AllPairs-filter}
use Rattle.mp_base.proofs.Contents.{contains_map, contains_from_map, contains_filter, contains_from_filter}
use Rattle.lam_geom.specs.declared.layer.Layer.TheVariants.{ND, NP, NB}
use Rattle.lam_geom.specs.declared.rect.Rect.{Rect}
use Rattle.lam_geom.specs.Squares.{covered, rank}
use Rattle.mask_runs.specs.declared.mask.Mask.TheVariants.{Diffusion}
use Rattle.mask_runs.specs.Colours.{HasColour}
use Rattle.mask_tiles.specs.declared.tile.Tile.{Tile}
use Rattle.mask_tiles.specs.Tiles.{IsTile, AreTiles, AreWhole, Before}
use Rattle.mask_tiles.proofs.SeenLayers.{layers_of}
use Rattle.rule_tiles.specs.Areas.{grown, Reaches, reached, held, IsSolid, IsBefore, IsAreaOf, Lacks, rect_of, bare_of}
use Rattle.rule_tiles.proofs.Areas.{reached_by, reaches_all, covered_grown, not_grown, covered_first, covered_second}
use Rattle.rule_tiles.proofs.Areas.{covered_either, all_of}

abbrev shade : Bool → Bool → Bool → Bool → ℕ
shade nd np nb ni = if nd && np && not nb then (if ni then 3 else 2) else if nd then 1 else 0

shade_one : (nd np nb ni : Bool) → nb ≡ false → shade nd np nb ni ≡ 1 → (nd ≡ true) × (np ≡ false)
shade_one true true true ni n e = absurd (true≢false n)
shade_one true true false true n e = absurd (omega arith)
shade_one true true false false n e = absurd (omega arith)
shade_one true false nb ni n e = (refl, refl)
shade_one false np nb ni n e = absurd (omega arith)

one_shade : (nd np nb ni : Bool) → nd ≡ true → np ≡ false → shade nd np nb ni ≡ 1
one_shade true true nb ni e f = absurd (true≢false f)
one_shade true false nb ni e f = refl
one_shade false np nb ni e f = absurd (true≢false (sym e))

not_true : (b : Bool) → ¬ (b ≡ true) → b ≡ false
not_true true n = absurd (n refl)
not_true false n = refl

-- colour 1 where no contact is buried
module _ (shapes : List Rect) (unburied : (x y : ℤ) → ¬ covered shapes NB x y) where
  bare_colour : (x y : ℤ) → HasColour shapes Diffusion 1 x y → covered shapes ND x y × ¬ covered shapes NP x y
  bare_colour x y h =
      let s = h.layers in
      let nb = not_true s.nb (λ e. unburied x y ((h.sees.each NB).0 e)) in
      let p = shade_one s.nd s.np s.nb s.ni nb h.same in
      ((h.sees.each ND).0 p.0, λ c. true≢false (sym ((h.sees.each NP).1 c) ∙ p.1))

  colour_bare : (x y : ℤ) → covered shapes ND x y → ¬ covered shapes NP x y → HasColour shapes Diffusion 1 x y
  colour_bare x y c n =
      let s = layers_of shapes x y in
      record {
        layers = s.0;
        sees = s.1;
        same = one_shade (s.0).nd (s.0).np (s.0).nb (s.0).ni ((s.1.each ND).1 c)
            (not_true (s.0).np (λ e. n ((s.1.each NP).0 e)));
      }

  module _ (tiles : List Tile) (are : AreTiles shapes Diffusion tiles) (whole : AreWhole shapes Diffusion tiles) where
    from_tile : (x y : ℤ) → held (bare_of tiles) x y → covered shapes ND x y × ¬ covered shapes NP x y
    from_tile x y h =
        let g = reached_by 0 0 (bare_of tiles) x y h in
        let m = contains_from_map rect_of (filter (λ t. nat_eq t.colour 1) tiles) g.0 g.1 in
        let t = m.0 in
        let k = contains_from_filter (λ t. nat_eq t.colour 1) tiles t m.1 in
        let r : Reaches 0 0 (rect_of t) x y = subst (λ q. Reaches 0 0 q x y) (sym m.2) g.2 in
        let one : t.colour ≡ 1 = eqb-true t.colour 1 k.1 in
        let tile = All-contains (IsTile shapes Diffusion) tiles t are.each k.0 in
        let l = r.left in
        let n = r.right in
        let b = r.bottom in
        let o = r.top in
        let span = tile.stack.each y (omega (arith, ints)) (omega (arith, ints)) in
        bare_colour x y (subst (λ c. HasColour shapes Diffusion c x y) one
        (span.each x (omega (arith, ints)) (omega (arith, ints))))

    to_tile : (x y : ℤ) → covered shapes ND x y → ¬ covered shapes NP x y → held (bare_of tiles) x y
    to_tile x y c n =
        let g = whole.tile 1 x y (omega arith) (colour_bare x y c n) in
        let t = g.0 in
        let i = g.3 in
        let e : nat_eq t.colour 1 ≡ true = ap (λ k. nat_eq k 1) g.2 in
        let m = contains_map rect_of (filter (λ t. nat_eq t.colour 1) tiles) t
        (contains_filter (λ t. nat_eq t.colour 1) tiles t g.1 e) in
        let a = i.left in
        let b = i.right in
        let d = i.bottom in
        let f = i.top in
        reaches_all 0 0 (bare_of tiles) x y (rect_of t) m (record {
          left = omega (arith, ints);
          right = omega (arith, ints);
          bottom = omega (arith, ints);
          top = omega (arith, ints);
        })

    solid : All IsSolid (bare_of tiles)
    solid = all_of IsSolid (bare_of tiles) (λ r c.
        let m = contains_from_map rect_of (filter (λ t. nat_eq t.colour 1) tiles) r c in
        let t = m.0 in
        let k = contains_from_filter (λ t. nat_eq t.colour 1) tiles t m.1 in
        let tile = All-contains (IsTile shapes Diffusion) tiles t are.each k.0 in
        let tall = tile.stack.some in
        let wide = (tile.stack.each t.y0 (omega (arith, ints)) tall).some in
        subst IsSolid m.2 (record { wide = wide; tall = tall }))

    no_tile : Tile
    no_tile = record { x0 = pos 0; y0 = pos 0; x1 = pos 0; y1 = pos 0; colour = 0 }

    pairs_map : (ts : List Tile) → AllPairs Before ts → AllPairs IsBefore (map rect_of ts)
    pairs_map ts h i j d m n =
        let len = length-map ts rect_of in
        let a : get_or (map rect_of ts) i d ≡ rect_of (get_or ts i no_tile) =
        get_or-map rect_of ts i no_tile d (omega arith) in
        let b : get_or (map rect_of ts) j d ≡ rect_of (get_or ts j no_tile) =
        get_or-map rect_of ts j no_tile d (omega arith) in
        subst (λ r. IsBefore r (get_or (map rect_of ts) j d)) (sym a)
        (subst (λ r. IsBefore (rect_of (get_or ts i no_tile)) r) (sym b) (h i j no_tile m (omega arith)))

    pub bare_area : IsAreaOf (Lacks (covered shapes ND) (covered shapes NP)) (bare_of tiles)
    bare_area = record {
      same = λ x y. (λ h. from_tile x y h, λ h. to_tile x y h.0 h.1);
      solid = solid;
      ordered = pairs_map (filter (λ t. nat_eq t.colour 1) tiles)
          (AllPairs-filter Before (λ t. nat_eq t.colour 1) tiles are.ascending);
    }

-- one area on diffusion, the other on polysilicon
module _ (from taken : List Rect) (before after : ℕ) where
  abbrev drawn : List Rect
  drawn = map (grown ND 0 0) from ++ map (grown NP before after) taken

  layers_differ : ND ≡ NP → ⊥
  layers_differ e = let f : rank ND ≡ rank NP = ap rank e in omega arith

  pub drawn_unburied : (x y : ℤ) → ¬ covered drawn NB x y
  drawn_unburied x y h =
      elim (covered_either (map (grown ND 0 0) from) (map (grown NP before after) taken) NB x y h) [
        | inl c ↦ not_grown ND NB 0 0 from x y (λ e. let f : rank ND ≡ rank NB = ap rank e in omega arith) c
        | inr c ↦ not_grown NP NB before after taken x y (λ e. let f : rank NP ≡ rank NB = ap rank e in omega arith) c
      ]

  drawn_from : (x y : ℤ) → covered drawn ND x y ↔ held from x y
  drawn_from x y = (
    λ h. elim (covered_either (map (grown ND 0 0) from) (map (grown NP before after) taken) ND x y h) [
      | inl c ↦ (covered_grown ND 0 0 from x y).0 c
      | inr c ↦ absurd (not_grown NP ND before after taken x y (λ e. layers_differ (sym e)) c)
    ],
    λ h. covered_first (map (grown ND 0 0) from) (map (grown NP before after) taken) ND x y
        ((covered_grown ND 0 0 from x y).1 h),
  )

  drawn_taken : (x y : ℤ) → covered drawn NP x y ↔ reached before after taken x y
  drawn_taken x y = (
    λ h. elim (covered_either (map (grown ND 0 0) from) (map (grown NP before after) taken) NP x y h) [
      | inl c ↦ absurd (not_grown ND NP 0 0 from x y layers_differ c)
      | inr c ↦ (covered_grown NP before after taken x y).0 c
    ],
    λ h. covered_second (map (grown ND 0 0) from) (map (grown NP before after) taken) NP x y
        ((covered_grown NP before after taken x y).1 h),
  )

  pub difference_area : (shapes : List Rect) (tiles : List Tile) → shapes ≡ drawn → AreTiles shapes Diffusion tiles
      → AreWhole shapes Diffusion tiles
      → IsAreaOf (Lacks (held from) (reached before after taken)) (bare_of tiles)
  difference_area shapes tiles e are whole =
      let a = bare_area drawn drawn_unburied tiles (subst (λ s. AreTiles s Diffusion tiles) e are)
      (subst (λ s. AreWhole s Diffusion tiles) e whole) in
      record {
        same = λ x y. (
          λ h. let c = (a.same x y).0 h in ((drawn_from x y).0 c.0, λ r. c.1 ((drawn_taken x y).1 r)),
          λ h. (a.same x y).1 ((drawn_from x y).1 h.0, λ c. h.1 ((drawn_taken x y).0 c)),
        );
        solid = a.solid;
        ordered = a.ordered;
      }
