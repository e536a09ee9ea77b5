-- The first breach is one, and the squares alone tell it.
use Rattle.std.proofs.Common.{ℕ, ◌≡◌, ◌+◌, ◌<◌, ◌≤◌, ◌⊎◌, inl, inr, refl, sym, subst, arith, List, [], ◌∷◌}
use Rattle.std.specs.Prelude.{◌↔◌, ℤ, pos, neg_ℤ, ◌+ℤ◌, ◌<ℤ◌}
use Rattle.std.proofs.lemmas.Int.{ints, by_lt_z}
use Rattle.std.proofs.lemmas.Bool.{cases_order}
use Rattle.lam_geom.specs.declared.layer.Layer.{Layer}
use Rattle.lam_geom.specs.declared.layer.Layer.TheVariants.{ND, NP, NC, NM, NB}
use Rattle.lam_geom.specs.declared.rect.Rect.{Rect}
use Rattle.lam_geom.specs.Squares.{Square, Covers, covered, SameSquares}
use Rattle.lam_geom.proofs.Chains.{map_chain}
use Rattle.lam_geom.proofs.Adjoins.{adjoin_map}
use Rattle.lam_geom.specs.Rules.{IsInBlock, IsWhole, IsNarrow, Way, against, to_x, to_y, IsInGap, IsTight, IsNear}
use Rattle.lam_geom.specs.Rules.{IsUnrelated, IsBad, IsOpenGate, IsCut, cut_at, IsSquareCut, IsOddCut, IsSurrounded}
use Rattle.lam_geom.specs.Rules.{IsBareCut, BreaksRule, IsClean, IsFirstBreach}
use Rattle.lam_geom.specs.Rules.IsBad.{nothing, short}

-- there is one first breach at most
pub one_breach : (covers : Layer → ℤ → ℤ → Type 0) (k j : ℕ) (x y p q : ℤ) → IsFirstBreach covers k x y
    → IsFirstBreach covers j p q → (k ≡ j) × (x ≡ p) × (y ≡ q)
one_breach covers k j x y p q a b = elim (cases_order k j) [
  | inl e ↦ (let s = place (subst (λ n. IsFirstBreach covers n x y) e a) in (e, s.0, s.1))
  | inr (inl h) ↦ absurd (b.rule k x y h a.breaks)
  | inr (inr h) ↦ absurd (a.rule j p q h b.breaks)
]
  where
    place : IsFirstBreach covers j x y → (x ≡ p) × (y ≡ q)
    place c =
        by_lt_z y q (λ h. absurd (b.least x y (inl h) c.breaks))
        (λ h. by_lt_z q y (λ g. absurd (c.least p q (inl g) b.breaks))
        (λ g. let e : y ≡ q = omega (arith, ints) in
        by_lt_z x p (λ m. absurd (b.least x y (inr (e, m)) c.breaks))
        (λ m. by_lt_z p x (λ n. absurd (c.least p q (inr (sym e, n)) b.breaks))
        (λ n. (omega (arith, ints), e)))))

module _ (c d : Layer → ℤ → ℤ → Type 0) (s : SameSquares c d) where
  narrow : (l : Layer) (n : ℕ) (x y : ℤ) → IsNarrow (c l) n x y → IsNarrow (d l) n x y
  narrow l n x y i = record {
    here = (s l x y).0 i.here;
    alone = λ a b m h. i.alone a b m (λ p q o. (s l p q).1 (h p q o));
  }

  gap : (l : Layer) (w : Way) (n : ℕ) (x y : ℤ) → IsInGap (c l) w n x y → IsInGap (d l) w n x y
  gap l w n x y i = record {
    back = i.back;
    ahead = i.ahead;
    back_end = (s l (to_x (against w) x i.back) (to_y (against w) y i.back)).0 i.back_end;
    ahead_end = (s l (to_x w x i.ahead) (to_y w y i.ahead)).0 i.ahead_end;
    back_open = λ k m h. i.back_open k m ((s l (to_x (against w) x k) (to_y (against w) y k)).1 h);
    ahead_open = λ k m h. i.ahead_open k m ((s l (to_x w x k) (to_y w y k)).1 h);
    open_ = λ h. i.open_ ((s l x y).1 h);
    short = i.short;
  }

  tight : (l : Layer) (n : ℕ) (x y : ℤ) → IsTight (c l) n x y → IsTight (d l) n x y
  tight l n x y (inl i) = inl (gap l _ n x y i)
  tight l n x y (inr i) = inr (gap l _ n x y i)

  unrelated : (x y : ℤ) → IsUnrelated c x y → IsUnrelated d x y
  unrelated x y u =
      let w = u.way in let n = u.near in
      record {
        polysilicon = (s NP x y).0 u.polysilicon;
        bare = λ h. u.bare ((s ND x y).1 h);
        way = w;
        near = record {
          between = n.between;
          few = n.few;
          clear = λ k a b. (
            λ h. (n.clear k a b).0 ((s NP (to_x w x k) (to_y w y k)).1 h),
            λ h. (n.clear k a b).1 ((s ND (to_x w x k) (to_y w y k)).1 h),
          );
          diffusion = (s ND (to_x w x (n.between + 1)) (to_y w y (n.between + 1))).0 n.diffusion;
          bare = λ h. n.bare ((s NP (to_x w x (n.between + 1)) (to_y w y (n.between + 1))).1 h);
        };
      }

  bad : (w : Way) (x y : ℤ) → IsBad c w x y → IsBad d w x y
  bad w x y (nothing a b) = nothing (λ h. a ((s NP (to_x w x 1) (to_y w y 1)).1 h))
      (λ h. b ((s ND (to_x w x 1) (to_y w y 1)).1 h))
  bad w x y (short a b k m n o) = short ((s NP (to_x w x 1) (to_y w y 1)).0 a)
      (λ h. b ((s ND (to_x w x 1) (to_y w y 1)).1 h)) k m n (elim o [
        | inl g ↦ inl (λ h. g ((s NP (to_x w x k) (to_y w y k)).1 h))
        | inr g ↦ inr ((s ND (to_x w x k) (to_y w y k)).0 g)
      ])

  open_gate : (x y : ℤ) → IsOpenGate c x y → IsOpenGate d x y
  open_gate x y g = record {
    gate = (s NP x y).0 g.gate;
    diffusion = (s ND x y).0 g.diffusion;
    unburied = λ h. g.unburied ((s NB x y).1 h);
    way = g.way;
    bad = bad g.way x y g.bad;
  }

  square_back : (x y a b : ℤ) → IsSquareCut d x y a b → IsSquareCut c x y a b
  square_back x y a b h p q = (
    λ i. (h p q).0 (
      (i.0.0, (s NC p q).0 i.0.1),
      map_chain (adjoin_map (IsCut c) (IsCut d)
          (λ t m. (m.0, (s NC t.x t.y).0 m.1))) i.1,
    ),
    λ i.
        let m = (h p q).1 i in (
          (m.0.0, (s NC p q).1 m.0.1),
          map_chain (adjoin_map (IsCut d) (IsCut c) (λ t m. (m.0, (s NC t.x t.y).1 m.1))) m.1,
        ),
  )

module _ (c d : Layer → ℤ → ℤ → Type 0) (s : SameSquares c d) where
  flip : SameSquares d c
  flip l x y = ((s l x y).1, (s l x y).0)

  whole_back : (l : Layer) (a b : ℤ) (n : ℕ) → IsWhole (d l) a b n → IsWhole (c l) a b n
  whole_back l a b n h p q i = (s l p q).1 (h p q i)

  odd_cut : (x y : ℤ) → IsOddCut c x y → IsOddCut d x y
  odd_cut x y h = record { here = (s NC x y).0 h.here; odd = λ a b i. h.odd a b (square_back c d s x y a b i) }

  bare_cut : (x y : ℤ) → IsBareCut c x y → IsBareCut d x y
  bare_cut x y h = record {
    here = (s NC x y).0 h.here;
    a = h.a;
    b = h.b;
    square = square_back d c flip x y h.a h.b h.square;
    bare = λ i. h.bare (
      whole_back NM (h.a +ℤ neg_ℤ (pos 500)) (h.b +ℤ neg_ℤ (pos 500)) 2000 i.0,
      elim i.1 [
        | inl g ↦ inl (whole_back NP (h.a +ℤ neg_ℤ (pos 500)) (h.b +ℤ neg_ℤ (pos 500)) 2000 g)
        | inr g ↦ inr (whole_back ND (h.a +ℤ neg_ℤ (pos 500)) (h.b +ℤ neg_ℤ (pos 500)) 2000 g)
      ],
    );
  }

  pub same_breach : (k : ℕ) (x y : ℤ) → BreaksRule c k x y → BreaksRule d k x y
  same_breach k x y (inl h) = inl (h.0, narrow c d s ND 1000 x y h.1)
  same_breach k x y (inr (inl h)) = inr (inl (h.0, narrow c d s NP 1000 x y h.1))
  same_breach k x y (inr (inr (inl h))) = inr (inr (inl (h.0, narrow c d s NM 1500 x y h.1)))
  same_breach k x y (inr (inr (inr (inl h)))) = inr (inr (inr (inl (h.0, tight c d s ND 1500 x y h.1))))
  same_breach k x y (inr (inr (inr (inr (inl h))))) = inr (inr (inr (inr (inl (h.0, tight c d s NP 1000 x y h.1)))))
  same_breach k x y (inr (inr (inr (inr (inr (inl h)))))) = inr (inr (inr (inr (inr
      (inl (h.0, tight c d s NM 1500 x y h.1))))))
  same_breach k x y (inr (inr (inr (inr (inr (inr (inl h))))))) = inr (inr (inr (inr (inr (inr
      (inl (h.0, unrelated c d s x y h.1)))))))
  same_breach k x y (inr (inr (inr (inr (inr (inr (inr (inl h)))))))) = inr (inr (inr (inr (inr (inr (inr
      (inl (h.0, open_gate c d s x y h.1))))))))
  same_breach k x y (inr (inr (inr (inr (inr (inr (inr (inr (inl h))))))))) = inr (inr (inr (inr (inr (inr (inr (inr
      (inl (h.0, odd_cut x y h.1)))))))))
  same_breach k x y (inr (inr (inr (inr (inr (inr (inr (inr (inr h))))))))) = inr (inr (inr (inr (inr (inr (inr (inr
      (inr (h.0, bare_cut x y h.1)))))))))

  -- drawings that cover the same squares are clean together
  pub same_clean : IsClean d → IsClean c
  same_clean h k x y b = h k x y (same_breach k x y b)
