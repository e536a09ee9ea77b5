-- Small drawings of metal, and what the lambda rules say of them.
use Rattle.std.proofs.Common.{ℕ, ◌≡◌, ◌≢◌, ◌+◌, ◌<◌, ◌≤◌, ◌⊎◌, inl, inr, refl, sym, ◌∙◌, arith, List, [], ◌∷◌}
use Rattle.std.specs.Prelude.{ℤ, pos, neg_ℤ, ◌+ℤ◌, ◌≤ℤ◌, ◌<ℤ◌}
use Rattle.std.proofs.lemmas.Int.{ints}
use Rattle.lam_geom.specs.declared.layer.Layer.{Layer}
use Rattle.lam_geom.specs.declared.layer.Layer.TheVariants.{ND, NP, NC, NM}
use Rattle.lam_geom.specs.declared.rect.Rect.{Rect}
use Rattle.lam_geom.specs.Squares.{Covers, covered}
use Rattle.lam_geom.specs.Rules.{IsInBlock, IsWhole, IsNarrow, IsInGap, IsTight, BreaksRule, IsClean, IsFirstBreach}
use Rattle.lam_geom.specs.Rules.Way.{right, up}

-- without diffusion, polysilicon and cuts only the rules of metal may be broken
only_metal : (c : Layer → ℤ → ℤ → Type 0) → ((x y : ℤ) → ¬ c ND x y) → ((x y : ℤ) → ¬ c NP x y)
    → ((x y : ℤ) → ¬ c NC x y) → (k : ℕ) (x y : ℤ) → BreaksRule c k x y
    → (k ≡ 3) × IsNarrow (c NM) 1500 x y ⊎ (k ≡ 6) × IsTight (c NM) 1500 x y
only_metal c nd np nc k x y (inl h) = absurd (nd x y h.1.here)
only_metal c nd np nc k x y (inr (inl h)) = absurd (np x y h.1.here)
only_metal c nd np nc k x y (inr (inr (inl h))) = inl h
only_metal c nd np nc k x y (inr (inr (inr (inl (e, inl i))))) = absurd (nd _ _ i.back_end)
only_metal c nd np nc k x y (inr (inr (inr (inl (e, inr i))))) = absurd (nd _ _ i.back_end)
only_metal c nd np nc k x y (inr (inr (inr (inr (inl (e, inl i)))))) = absurd (np _ _ i.back_end)
only_metal c nd np nc k x y (inr (inr (inr (inr (inl (e, inr i)))))) = absurd (np _ _ i.back_end)
only_metal c nd np nc k x y (inr (inr (inr (inr (inr (inl h)))))) = inr h
only_metal c nd np nc k x y (inr (inr (inr (inr (inr (inr (inl h))))))) = absurd (np x y h.1.polysilicon)
only_metal c nd np nc k x y (inr (inr (inr (inr (inr (inr (inr (inl h)))))))) = absurd (np x y h.1.gate)
only_metal c nd np nc k x y (inr (inr (inr (inr (inr (inr (inr (inr (inl h))))))))) = absurd (nc x y h.1.here)
only_metal c nd np nc k x y (inr (inr (inr (inr (inr (inr (inr (inr (inr h))))))))) = absurd (nc x y h.1.here)

-- `E` alone
pub nothing_is_clean : IsClean (covered [])
nothing_is_clean k x y h = elim (only_metal (covered []) (λ x y c. c) (λ x y c. c) (λ x y c. c) k x y h) [
  | inl n ↦ n.1.here
  | inr n ↦ elim n.1 [ inl i ↦ i.back_end | inr i ↦ i.back_end ]
]

-- metal of two rectangles, or of one twice
module _ (r q : Rect) (er : r.layer ≡ NM) (eq : q.layer ≡ NM) where
  no_other : (l : Layer) → l ≢ NM → (x y : ℤ) → ¬ covered (r ∷ q ∷ []) l x y
  no_other l n x y (inl h) = n (sym h.same ∙ er)
  no_other l n x y (inr (inl h)) = n (sym h.same ∙ eq)
  no_other l n x y (inr (inr h)) = h

  of_metal : (k : ℕ) (x y : ℤ) → BreaksRule (covered (r ∷ q ∷ [])) k x y
      → (k ≡ 3) × IsNarrow (covered (r ∷ q ∷ []) NM) 1500 x y
      ⊎ (k ≡ 6) × IsTight (covered (r ∷ q ∷ []) NM) 1500 x y
  of_metal = only_metal (covered (r ∷ q ∷ [])) (no_other ND (λ e. cc (e))) (no_other NP (λ e. cc (e)))
      (no_other NC (λ e. cc (e)))

-- `L NM; B 500 750 250 375; E`, the rectangle written twice
abbrev narrow_metal : Rect
narrow_metal = record { layer = NM; x0 = pos 0; y0 = pos 0; x1 = pos 1000; y1 = pos 1500 }

abbrev narrow : List Rect
narrow = narrow_metal ∷ narrow_metal ∷ []

in_narrow : (l : Layer) (x y : ℤ) → covered narrow l x y → Covers narrow_metal l x y
in_narrow l x y (inl h) = h
in_narrow l x y (inr (inl h)) = h
in_narrow l x y (inr (inr h)) = absurd h

pub narrow_metal_breaks : IsFirstBreach (covered narrow) 3 (pos 0) (pos 0)
narrow_metal_breaks = record {
  breaks = inr (inr (inl (
    refl,
    record {
      here = inl (record {
        same = refl;
        left = omega (arith, ints);
        right = omega (arith, ints);
        bottom = omega (arith, ints);
        top = omega (arith, ints);
      });
      alone = λ a b i h.
          let i0 = i.left in let i1 = i.right in let i2 = i.bottom in let i3 = i.top in
          let m = in_narrow NM (a +ℤ pos 1499) b (h (a +ℤ pos 1499) b (record {
            left = omega (arith, ints);
            right = omega (arith, ints);
            bottom = omega (arith, ints);
            top = omega (arith, ints);
          })) in
          let n = in_narrow NM a b (h a b (record {
            left = omega (arith, ints);
            right = omega (arith, ints);
            bottom = omega (arith, ints);
            top = omega (arith, ints);
          })) in
          let m0 = m.right in let n0 = n.left in absurd (omega (arith, ints));
    },
  )));
  rule = λ j p q less h. elim (of_metal narrow_metal narrow_metal refl refl j p q h)
      [ inl n ↦ (let e = n.0 in absurd (omega arith)) | inr n ↦ (let e = n.0 in absurd (omega arith)) ];
  least = λ p q less h. elim (of_metal narrow_metal narrow_metal refl refl 3 p q h) [
    | inl n ↦ (let m = in_narrow NM p q n.1.here in let m0 = m.left in let m1 = m.bottom in
        absurd (omega (arith, ints)))
    | inr n ↦ (let e = n.0 in absurd (omega arith))
  ];
}

-- `L NM; B 750 750 375 375; B 750 750 1625 375; E`
abbrev left_metal : Rect
left_metal = record { layer = NM; x0 = pos 0; y0 = pos 0; x1 = pos 1500; y1 = pos 1500 }

abbrev right_metal : Rect
right_metal = record { layer = NM; x0 = pos 2500; y0 = pos 0; x1 = pos 4000; y1 = pos 1500 }

abbrev close : List Rect
close = left_metal ∷ right_metal ∷ []

data InClose (x y : ℤ) : Type 0 where
  in_left : pos 0 ≤ℤ x → x <ℤ pos 1500 → pos 0 ≤ℤ y → y <ℤ pos 1500 → InClose x y
  in_right : pos 2500 ≤ℤ x → x <ℤ pos 4000 → pos 0 ≤ℤ y → y <ℤ pos 1500 → InClose x y

in_close : (x y : ℤ) → covered close NM x y → InClose x y
in_close x y (inl h) = in_left h.left h.right h.bottom h.top
in_close x y (inr (inl h)) = in_right h.left h.right h.bottom h.top
in_close x y (inr (inr h)) = absurd h

has_close : (x y : ℤ) → InClose x y → covered close NM x y
has_close x y (in_left a b c d) = inl (record { same = refl; left = a; right = b; bottom = c; top = d })
has_close x y (in_right a b c d) = inr (inl (record { same = refl; left = a; right = b; bottom = c; top = d }))

close_is_wide : (x y : ℤ) → ¬ IsNarrow (covered close NM) 1500 x y
close_is_wide x y n = elim (in_close x y n.here) [
  | in_left a b c d ↦ n.alone (pos 0) (pos 0)
      (record {
        left = omega (arith, ints);
        right = omega (arith, ints);
        bottom = omega (arith, ints);
        top = omega (arith, ints);
      })
      (λ p q i. let i0 = i.left in let i1 = i.right in let i2 = i.bottom in let i3 = i.top in
      has_close p q (in_left (omega (arith, ints)) (omega (arith, ints)) (omega (arith, ints)) (omega (arith, ints))))
  | in_right a b c d ↦ n.alone (pos 2500) (pos 0)
      (record {
        left = omega (arith, ints);
        right = omega (arith, ints);
        bottom = omega (arith, ints);
        top = omega (arith, ints);
      })
      (λ p q i. let i0 = i.left in let i1 = i.right in let i2 = i.bottom in let i3 = i.top in
      has_close p q (in_right (omega (arith, ints)) (omega (arith, ints)) (omega (arith, ints)) (omega (arith, ints))))
]

not_close : (x y : ℤ) → pos 1500 ≤ℤ x → x <ℤ pos 2500 → ¬ covered close NM x y
not_close x y a b h = elim (in_close x y h)
    [ in_left c d e g ↦ omega (arith, ints) | in_right c d e g ↦ omega (arith, ints) ]

-- a square of a gap isn't before the first
no_earlier : (p q : ℤ) → (q <ℤ pos 0) ⊎ (q ≡ pos 0) × (p <ℤ pos 1500) → ¬ IsTight (covered close NM) 1500 p q
no_earlier p q less (inl i) =
    let o : ¬ InClose p q = λ c. i.open_ (has_close p q c) in
    elim (in_close _ _ i.back_end) [
      | in_left a b c d ↦ elim less [
        | inl l ↦ omega (arith, ints)
        | inr l ↦ (let l0 = l.0 in let l1 = l.1 in
            o (in_left (omega (arith, ints)) l1 (omega (arith, ints)) (omega (arith, ints))))
      ]
      | in_right a b c d ↦ elim less [
        | inl l ↦ omega (arith, ints)
        | inr l ↦ (let l0 = l.0 in let l1 = l.1 in omega (arith, ints))
      ]
    ]
no_earlier p q less (inr i) =
    let o : ¬ InClose p q = λ c. i.open_ (has_close p q c) in
    elim (in_close _ _ i.back_end) [
      | in_left a b c d ↦ elim less [
        | inl l ↦ omega (arith, ints)
        | inr l ↦ (let l0 = l.0 in let l1 = l.1 in
            o (in_left a b (omega (arith, ints)) (omega (arith, ints))))
      ]
      | in_right a b c d ↦ elim less [
        | inl l ↦ omega (arith, ints)
        | inr l ↦ (let l0 = l.0 in let l1 = l.1 in omega (arith, ints))
      ]
    ]

pub close_metal_breaks : IsFirstBreach (covered close) 6 (pos 1500) (pos 0)
close_metal_breaks = record {
  breaks = inr (inr (inr (inr (inr (inl (
    refl,
    inl (record {
      back = 1;
      ahead = 1000;
      back_end = has_close (pos 1499) (pos 0)
          (in_left (omega (arith, ints)) (omega (arith, ints)) (omega (arith, ints)) (omega (arith, ints)));
      ahead_end = has_close (pos 2500) (pos 0)
          (in_right (omega (arith, ints)) (omega (arith, ints)) (omega (arith, ints)) (omega (arith, ints)));
      back_open = λ k n. not_close (pos 1500 +ℤ neg_ℤ (pos k)) (pos 0) (omega (arith, ints)) (omega (arith, ints));
      ahead_open = λ k n. not_close (pos 1500 +ℤ pos k) (pos 0) (omega (arith, ints)) (omega (arith, ints));
      open_ = not_close (pos 1500) (pos 0) (omega (arith, ints)) (omega (arith, ints));
      short = omega arith;
    }),
  ))))));
  rule = λ j p q less h. elim (of_metal left_metal right_metal refl refl j p q h)
      [ inl n ↦ close_is_wide p q n.1 | inr n ↦ (let e = n.0 in absurd (omega arith)) ];
  least = λ p q less h. elim (of_metal left_metal right_metal refl refl 6 p q h)
      [ inl n ↦ (let e = n.0 in absurd (omega arith)) | inr n ↦ no_earlier p q less n.1 ];
}

-- `L NM; B 750 750 375 375; E`, the rectangle written twice
abbrev square : List Rect
square = left_metal ∷ left_metal ∷ []

in_square : (x y : ℤ) → covered square NM x y → Covers left_metal NM x y
in_square x y (inl h) = h
in_square x y (inr (inl h)) = h
in_square x y (inr (inr h)) = absurd h

pub square_is_clean : IsClean (covered square)
square_is_clean k x y b = elim (of_metal left_metal left_metal refl refl k x y b) [
  | inl n ↦ (let h = in_square x y n.1.here in
      let h0 = h.left in let h1 = h.right in let h2 = h.bottom in let h3 = h.top in
      n.1.alone (pos 0) (pos 0)
      (record {
        left = omega (arith, ints);
        right = omega (arith, ints);
        bottom = omega (arith, ints);
        top = omega (arith, ints);
      })
      (λ p q i. let i0 = i.left in let i1 = i.right in let i2 = i.bottom in let i3 = i.top in
      inl (record {
        same = refl;
        left = omega (arith, ints);
        right = omega (arith, ints);
        bottom = omega (arith, ints);
        top = omega (arith, ints);
      })))
  | inr n ↦ elim n.1 [
    | inl i ↦ (let a = in_square _ _ i.back_end in let d = in_square _ _ i.ahead_end in
        let a0 = a.left in let a1 = a.bottom in let a2 = a.top in let d0 = d.right in
        i.open_ (inl (record {
          same = refl;
          left = omega (arith, ints);
          right = omega (arith, ints);
          bottom = a1;
          top = a2;
        })))
    | inr i ↦ (let a = in_square _ _ i.back_end in let d = in_square _ _ i.ahead_end in
        let a0 = a.left in let a1 = a.right in let a2 = a.bottom in let d0 = d.top in
        i.open_ (inl (record {
          same = refl;
          left = a0;
          right = a1;
          bottom = omega (arith, ints);
          top = omega (arith, ints);
        })))
  ]
]
