-- Crosses over tiles.
use Rattle.std.proofs.Common.{◌≡◌, ◌≢◌, ◌⊎◌, inl, inr, refl, sym, subst, arith, List, [], ◌∷◌, ◌++◌}
use Rattle.std.specs.Prelude.{ℤ}
use Rattle.std.proofs.lemmas.Bool.{cases_Bool}
use Rattle.std.proofs.lemmas.Int.{ints}
use Rattle.std.proofs.lemmas.List.Elements.{All-contains, Contains-push_cases}
use Rattle.lam_geom.specs.declared.layer.Layer.TheVariants.{ND, NP}
use Rattle.lam_geom.specs.declared.rect.Rect.{Rect}
use Rattle.lam_geom.specs.Squares.{Covers, covered}
use Rattle.mask_runs.specs.declared.mask.Mask.TheVariants.{Diffusion}
use Rattle.mask_runs.specs.Colours.{HasColour}
use Rattle.mask_tiles.specs.declared.tile.Tile.{Tile}
use Rattle.mask_tiles.specs.Tiles.{AreWhole, InTile}
use Rattle.mask_tiles.specs.Touching.{Beside}
use Rattle.mask_tiles.proofs.SeenLayers.{layers_of}
use Rattle.rule_rows.specs.Closed.{AddsCross, AreBordered, AreCrosses, AreDeep, across_of, along_of}
use Rattle.rule_rows.specs.Copies.{AreSpread}
use Rattle.rule_rows.proofs.Spreading.{covered_more}
use Rattle.rule_rows.proofs.Swapping.{drawn_other, drawn_own, here, one}

pub crosses_none : AreCrosses [] []
crosses_none = record {
  only = λ l x y h. absurd h;
  each = λ t has. absurd (let a = has.1 in omega arith);
}

-- each square beside one of the tile is in the tile's row or column
in_cross : (t : Tile) (x y u v : ℤ) → InTile t x y → Beside x y u v
    → Covers (across_of t) ND u v ⊎ Covers (along_of t) ND u v
in_cross t x y u v i (inl h) =
    let a = i.left in let b = i.right in let c = i.bottom in let d = i.top in let e = h.0 in
    elim h.1 [
      | inl f ↦ inl (record {
        same = refl;
        left = omega (arith, ints);
        right = omega (arith, ints);
        bottom = omega (arith, ints);
        top = omega (arith, ints);
      })
      | inr f ↦ inl (record {
        same = refl;
        left = omega (arith, ints);
        right = omega (arith, ints);
        bottom = omega (arith, ints);
        top = omega (arith, ints);
      })
    ]
in_cross t x y u v i (inr h) =
    let a = i.left in let b = i.right in let c = i.bottom in let d = i.top in let e = h.0 in
    elim h.1 [
      | inl f ↦ inr (record {
        same = refl;
        left = omega (arith, ints);
        right = omega (arith, ints);
        bottom = omega (arith, ints);
        top = omega (arith, ints);
      })
      | inr f ↦ inr (record {
        same = refl;
        left = omega (arith, ints);
        right = omega (arith, ints);
        bottom = omega (arith, ints);
        top = omega (arith, ints);
      })
    ]

module _ (tiles : List Tile) (t : Tile) (old new : List Rect) where
  pub crosses_more : AreCrosses tiles old → AddsCross t old new → AreCrosses (tiles ++ t ∷ []) new
  crosses_more a (inr h) = record {
    only = λ l x y c. a.only l x y (subst (λ d. covered d l x y) h.1 c);
    each = λ s has two x y u v i b. elim (Contains-push_cases tiles t s has) [
      | inl m ↦ subst (λ d. covered d ND u v) (sym h.1) (a.each s m two x y u v i b)
      | inr e ↦ absurd (h.0 (subst (λ z. z.colour ≡ 2) (sym e) two))
    ];
  }
  crosses_more a (inl h) =
      let mid = old ++ across_of t ∷ [] in
      let first = covered_more old (across_of t) in
      let second = covered_more mid (along_of t) in
      subst (AreCrosses (tiles ++ t ∷ [])) (sym h.1) (record {
        only = λ l x y c. elim ((second l x y).0 c) [
          | inl m ↦ elim ((first l x y).0 m) [ inl o ↦ a.only l x y o | inr o ↦ sym o.same ]
          | inr m ↦ sym m.same
        ];
        each = λ s has two x y u v i b. elim (Contains-push_cases tiles t s has) [
          | inl m ↦ (second ND u v).1 (inl ((first ND u v).1 (inl (a.each s m two x y u v i b))))
          | inr e ↦ elim (in_cross t x y u v (subst (λ z. InTile z x y) (sym e) i) b) [
            | inl c ↦ (second ND u v).1 (inl ((first ND u v).1 (inr c)))
            | inr c ↦ (second ND u v).1 (inr c)
          ]
        ];
      })

module _ (shapes d1 d2 d3 : List Rect) (tiles : List Tile) (crosses : AreCrosses tiles d1)
    (s1 : AreSpread (covered shapes NP) NP here d1 d2) (s2 : AreSpread (covered shapes ND) NP here d2 d3)
    (found : List Tile) (whole : AreWhole d3 Diffusion found) (deep : AreDeep found) where
  pub bordered : AreBordered (covered shapes) tiles
  bordered t has two x y u v i b =
      let (s, sees) = layers_of d3 u v in
      let on = (drawn_other shapes d2 d3 ND NP s2 ND (λ e. cc (e)) u v).1
      ((drawn_other shapes d1 d2 NP NP s1 ND (λ e. cc (e)) u v).1 (crosses.each t has two x y u v i b)) in
      elim (cases_Bool s.np) [
        | inl e ↦ elim ((drawn_own shapes d2 d3 ND NP s2 u v).0 ((sees.each NP).0 e)) [
          | inl c ↦ elim ((drawn_own shapes d1 d2 NP NP s1 u v).0 c) [
            | inl o ↦ absurd (let f = crosses.only NP u v o in cc (f))
            | inr o ↦ inl o
          ]
          | inr c ↦ inr c
        ]
        | inr e ↦ (
            let colour : HasColour d3 Diffusion 1 u v = record {
              layers = s;
              sees = sees;
              same = one s.nd s.np s.nb s.ni ((sees.each ND).1 on) e;
            } in
            let (q, has_q, same, inside) = whole.tile 1 u v (omega arith) colour in
            absurd (All-contains (λ t. t.colour ≢ 1) found q deep has_q same))
      ]
