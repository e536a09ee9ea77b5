-- Metal that is added to a clean drawing leaves it clean, where it is wide and no metal is too close.
use Rattle.std.proofs.Common.{ℕ, ◌≡◌, ◌≢◌, ◌+◌, ◌<◌, ◌≤◌, ◌⊎◌, inl, inr, refl, sym, ◌∙◌, subst, arith}
use Rattle.std.proofs.Common.{List, [], ◌∷◌, ◌++◌}
use Rattle.std.specs.Prelude.{◌↔◌, ℤ, pos, neg_ℤ, ◌+ℤ◌, ◌≤ℤ◌, ◌<ℤ◌}
use Rattle.std.proofs.lemmas.Int.{ints, by_lt_z}
use Rattle.mp_base.proofs.Members.{Member}
use Rattle.lam_geom.specs.declared.layer.Layer.{Layer}
use Rattle.lam_geom.specs.declared.layer.Layer.TheVariants.{ND, NP, NC, NM, NI, NB, NG}
use Rattle.lam_geom.specs.declared.rect.Rect.{Rect}
use Rattle.lam_geom.specs.Squares.{Square, Covers, covered, SameSquares}
use Rattle.lam_geom.proofs.Chains.{map_chain}
use Rattle.lam_geom.proofs.Adjoins.{adjoin_map}
use Rattle.lam_geom.specs.Rules.{IsInBlock, IsWhole, IsNarrow, Way, to_x, to_y, IsTight, IsNear}
use Rattle.lam_geom.specs.Rules.{IsUnrelated, IsBad, IsOpenGate, IsCut, cut_at, IsSquareCut, IsOddCut, IsSurrounded}
use Rattle.lam_geom.specs.Rules.{IsBareCut, BreaksRule, IsClean}
use Rattle.lam_geom.specs.Rules.IsBad.{nothing, short}
use Rattle.metal_pieces.proofs.Covering.{covered_append, append_covered}
use Rattle.lam_geom.proofs.RuleLaws.{same_clean}

-- at least three lambda wide and high
pub record IsBroad (r : Rect) : Type 0 where
  pub metal : r.layer ≡ NM
  pub wide : (r.x0 +ℤ pos 1500) ≤ℤ r.x1
  pub high : (r.y0 +ℤ pos 1500) ≤ℤ r.y1

-- a stretch of three lambda that has a place, within a longer one
record Start (low far x : ℤ) : Type 0 where
  at : ℤ
  from : low ≤ℤ at
  to : (at +ℤ pos 1500) ≤ℤ far
  before : at ≤ℤ x
  behind : x <ℤ (at +ℤ pos 1500)

start : (low far x : ℤ) → (low +ℤ pos 1500) ≤ℤ far → low ≤ℤ x → x <ℤ far → Start low far x
start low far x h a b = by_lt_z (x +ℤ pos 1500) far
    (λ k. record {
      at = x;
      from = a;
      to = omega (arith, ints);
      before = omega (arith, ints);
      behind = omega (arith, ints);
    })
    (λ k. record {
      at = far +ℤ neg_ℤ (pos 1500);
      from = omega (arith, ints);
      to = omega (arith, ints);
      before = omega (arith, ints);
      behind = omega (arith, ints);
    })

module _ (rects extra : List Rect) (broad : (r : Rect) → Member extra r → IsBroad r) where
  by_member : (rs : List Rect) (l : Layer) (x y : ℤ) → covered rs l x y → (r : Rect) × Member rs r × Covers r l x y
  by_member [] l x y h = absurd h
  by_member (r ∷ rs) l x y (inl h) = (r, inl refl, h)
  by_member (r ∷ rs) l x y (inr h) = let g = by_member rs l x y h in (g.0, inr g.1, g.2)

  of_member : (rs : List Rect) (l : Layer) (x y : ℤ) (r : Rect) → Member rs r → Covers r l x y → covered rs l x y
  of_member [] l x y r m c = absurd m
  of_member (q ∷ rs) l x y r (inl e) c = inl (subst (λ z. Covers z l x y) (sym e) c)
  of_member (q ∷ rs) l x y r (inr m) c = inr (of_member rs l x y r m c)

  abbrev mixed : Layer → ℤ → ℤ → Type 0
  mixed NM = covered (rects ++ extra) NM
  mixed ND = covered rects ND
  mixed NP = covered rects NP
  mixed NC = covered rects NC
  mixed NI = covered rects NI
  mixed NB = covered rects NB
  mixed NG = covered rects NG

  no_other : (l : Layer) → l ≢ NM → (x y : ℤ) → covered (rects ++ extra) l x y ↔ covered rects l x y
  no_other l n x y = (
    λ h. elim (covered_append rects extra l x y h) [
      | inl c ↦ c
      | inr c ↦ (let g = by_member extra l x y c in absurd (n (sym g.2.same ∙ (broad g.0 g.1).metal)))
    ],
    λ h. append_covered rects extra l x y (inl h),
  )

  same : SameSquares (covered (rects ++ extra)) mixed
  same NM x y = (λ h. h, λ h. h)
  same ND x y = no_other ND (λ q. cc (q)) x y
  same NP x y = no_other NP (λ q. cc (q)) x y
  same NC x y = no_other NC (λ q. cc (q)) x y
  same NI x y = no_other NI (λ q. cc (q)) x y
  same NB x y = no_other NB (λ q. cc (q)) x y
  same NG x y = no_other NG (λ q. cc (q)) x y

  more : (x y : ℤ) → covered rects NM x y → covered (rects ++ extra) NM x y
  more x y h = append_covered rects extra NM x y (inl h)

  -- the metal stays wide
  not_narrow : IsClean (covered rects) → (x y : ℤ) → ¬ IsNarrow (covered (rects ++ extra) NM) 1500 x y
  not_narrow clean x y n = elim (covered_append rects extra NM x y n.here) [
    | inl c ↦ clean 3 x y (inr (inr (inl (
      refl,
      record {
        here = c;
        alone = λ a b i h. n.alone a b i (λ p q o. more p q (h p q o));
      },
    ))))
    | inr c ↦ (let g = by_member extra NM x y c in
        let r = g.0 in let k = broad r g.1 in
        let s = start r.x0 r.x1 x k.wide g.2.left g.2.right in
        let t = start r.y0 r.y1 y k.high g.2.bottom g.2.top in
        let s0 = s.from in let s1 = s.to in let t0 = t.from in let t1 = t.to in
        n.alone s.at t.at (record { left = s.before; right = s.behind; bottom = t.before; top = t.behind })
        (λ p q o. let o0 = o.left in let o1 = o.right in let o2 = o.bottom in let o3 = o.top in
        append_covered rects extra NM p q (inr (of_member extra NM p q r g.1 (record {
          same = k.metal;
          left = omega (arith, ints);
          right = omega (arith, ints);
          bottom = omega (arith, ints);
          top = omega (arith, ints);
        })))))
  ]

  unrelated : (x y : ℤ) → IsUnrelated mixed x y → IsUnrelated (covered rects) x y
  unrelated x y u =
      let n = u.near in
      record {
        polysilicon = u.polysilicon;
        bare = u.bare;
        way = u.way;
        near = record { between = n.between; few = n.few; clear = n.clear; diffusion = n.diffusion; bare = n.bare };
      }

  bad : (z : Way) (x y : ℤ) → IsBad mixed z x y → IsBad (covered rects) z x y
  bad z x y (nothing a b) = nothing a b
  bad z x y (short a b k m n o) = short a b k m n o

  open_gate : (x y : ℤ) → IsOpenGate mixed x y → IsOpenGate (covered rects) x y
  open_gate x y g = record {
    gate = g.gate;
    diffusion = g.diffusion;
    unburied = g.unburied;
    way = g.way;
    bad = bad g.way x y g.bad;
  }

  to_mixed : (x y a b : ℤ) → IsSquareCut (covered rects) x y a b → IsSquareCut mixed x y a b
  to_mixed x y a b h p q = (
    λ i. (h p q).0 (i.0, map_chain (adjoin_map (IsCut mixed) (IsCut (covered rects)) (λ s m. m)) i.1),
    λ i.
        let m = (h p q).1 i in (m.0, map_chain (adjoin_map (IsCut (covered rects)) (IsCut mixed) (λ s m. m)) m.1),
  )

  from_mixed : (x y a b : ℤ) → IsSquareCut mixed x y a b → IsSquareCut (covered rects) x y a b
  from_mixed x y a b h p q = (
    λ i. (h p q).0 (i.0, map_chain (adjoin_map (IsCut (covered rects)) (IsCut mixed) (λ s m. m)) i.1),
    λ i.
        let m = (h p q).1 i in (m.0, map_chain (adjoin_map (IsCut mixed) (IsCut (covered rects)) (λ s m. m)) m.1),
  )

  odd_cut : (x y : ℤ) → IsOddCut mixed x y → IsOddCut (covered rects) x y
  odd_cut x y h = record { here = h.here; odd = λ a b i. h.odd a b (to_mixed x y a b i) }

  bare_cut : (x y : ℤ) → IsBareCut mixed x y → IsBareCut (covered rects) x y
  bare_cut x y h = record {
    here = h.here;
    a = h.a;
    b = h.b;
    square = from_mixed x y h.a h.b h.square;
    bare = λ i. h.bare ((λ p q o. more p q (i.0 p q o)), i.1);
  }

  mixed_clean : IsClean (covered rects) → ((x y : ℤ) → ¬ IsTight (covered (rects ++ extra) NM) 1500 x y)
      → IsClean mixed
  mixed_clean clean apart k x y (inl h) = clean k x y (inl h)
  mixed_clean clean apart k x y (inr (inl h)) = clean k x y (inr (inl h))
  mixed_clean clean apart k x y (inr (inr (inl h))) = not_narrow clean x y h.1
  mixed_clean clean apart k x y (inr (inr (inr (inl h)))) = clean k x y (inr (inr (inr (inl h))))
  mixed_clean clean apart k x y (inr (inr (inr (inr (inl h))))) = clean k x y (inr (inr (inr (inr (inl h)))))
  mixed_clean clean apart k x y (inr (inr (inr (inr (inr (inl h)))))) = apart x y h.1
  mixed_clean clean apart k x y (inr (inr (inr (inr (inr (inr (inl h))))))) =
      clean k x y (inr (inr (inr (inr (inr (inr (inl (h.0, unrelated x y h.1))))))))
  mixed_clean clean apart k x y (inr (inr (inr (inr (inr (inr (inr (inl h)))))))) =
      clean k x y (inr (inr (inr (inr (inr (inr (inr (inl (h.0, open_gate x y h.1)))))))))
  mixed_clean clean apart k x y (inr (inr (inr (inr (inr (inr (inr (inr (inl h))))))))) =
      clean k x y (inr (inr (inr (inr (inr (inr (inr (inr (inl (h.0, odd_cut x y h.1))))))))))
  mixed_clean clean apart k x y (inr (inr (inr (inr (inr (inr (inr (inr (inr h))))))))) =
      clean k x y (inr (inr (inr (inr (inr (inr (inr (inr (inr (h.0, bare_cut x y h.1))))))))))

  -- the drawing with the metal is clean
  pub clean_with_metal : IsClean (covered rects) → ((x y : ℤ) → ¬ IsTight (covered (rects ++ extra) NM) 1500 x y)
      → IsClean (covered (rects ++ extra))
  clean_with_metal clean apart = same_clean (covered (rects ++ extra)) mixed same (mixed_clean clean apart)
