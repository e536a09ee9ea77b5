-- What derived drawings cover.
use Rattle.std.proofs.Common.{ℕ, ◌≡◌, ◌≢◌, ◌≤◌, ◌⊎◌, inl, inr, refl, sym, subst, arith, List, [], ◌∷◌, ◌++◌}
use Rattle.std.specs.Prelude.{◌↔◌, ℤ, pos, negsuc, neg_ℤ, ◌+ℤ◌, ◌-ℤ◌, ◌<ℤ◌, ◌≤ℤ◌}
use Rattle.std.proofs.lemmas.Int.{ints, by_lt_z}
use Rattle.lam_geom.specs.declared.layer.Layer.{Layer}
use Rattle.lam_geom.specs.declared.rect.Rect.{Rect}
use Rattle.lam_geom.specs.Squares.{Covers, covered}
use Rattle.lam_geom.specs.Rules.{Way, to_x, to_y, At}
use Rattle.lam_geom.specs.Rules.Way.{right, left, up, down}
use Rattle.rule_rows.specs.declared.side.Side.{Side}
use Rattle.rule_rows.specs.declared.side.Side.TheVariants.{Right, Left, Above, Below}
use Rattle.rule_rows.specs.declared.side.Reach.{Reach}
use Rattle.rule_rows.specs.Sides.{way_of, Reaches}
use Rattle.rule_rows.specs.Copies.{spread_of, AreSpread}

pub natural : (z : ℤ) → pos 0 ≤ℤ z → (n : ℕ) × (z ≡ pos n)
natural (pos n) h = (n, refl)
natural (negsuc n) h = absurd (omega (arith, ints))

-- a place from which the stretch is in reach ahead
reach_ahead : (a b z : ℤ) (near far : ℕ) → near ≤ far → a <ℤ b → (a -ℤ pos far) ≤ℤ z → z <ℤ (b -ℤ pos near)
    → (k : ℕ) × (near ≤ k) × (k ≤ far) × (a ≤ℤ (z +ℤ pos k)) × ((z +ℤ pos k) <ℤ b)
reach_ahead a b z near far o w l m =
    by_lt_z (z +ℤ pos near) a
    (λ h. let n = natural (a -ℤ z) (omega (arith, ints)) in let k = n.0 in let e = n.1 in
    (k, omega (arith, ints), omega (arith, ints), omega (arith, ints), omega (arith, ints)))
    (λ h. (near, omega arith, o, h, omega (arith, ints)))

-- and behind
reach_behind : (a b z : ℤ) (near far : ℕ) → near ≤ far → a <ℤ b → (a +ℤ pos near) ≤ℤ z → z <ℤ (b +ℤ pos far)
    → (k : ℕ) × (near ≤ k) × (k ≤ far) × (a ≤ℤ (z +ℤ neg_ℤ (pos k))) × ((z +ℤ neg_ℤ (pos k)) <ℤ b)
reach_behind a b z near far o w l m =
    by_lt_z (z +ℤ neg_ℤ (pos near)) b
    (λ h. (near, omega arith, o, omega (arith, ints), h))
    (λ h. let n = natural ((z -ℤ b) +ℤ pos 1) (omega (arith, ints)) in let k = n.0 in let e = n.1 in
    (k, omega (arith, ints), omega (arith, ints), omega (arith, ints), omega (arith, ints)))

module _ (to from : Layer) (near far : ℕ) (r : Rect) (l : Layer) (x y : ℤ) where
  spread_to : (s : Side) → near ≤ far → r.layer ≡ from → r.x0 <ℤ r.x1 → r.y0 <ℤ r.y1
      → Covers (spread_of s to near far r) l x y
      → (l ≡ to) × Reaches (Covers r from) (way_of s) near far x y
  spread_to Right o e w h c =
      let k = reach_ahead r.x0 r.x1 x near far o w c.left c.right in
      (sym c.same, (k.0, k.1, k.2, record { same = e; left = k.3; right = k.4; bottom = c.bottom; top = c.top }))
  spread_to Left o e w h c =
      let k = reach_behind r.x0 r.x1 x near far o w c.left c.right in
      (sym c.same, (k.0, k.1, k.2, record { same = e; left = k.3; right = k.4; bottom = c.bottom; top = c.top }))
  spread_to Above o e w h c =
      let k = reach_ahead r.y0 r.y1 y near far o h c.bottom c.top in
      (sym c.same, (k.0, k.1, k.2, record { same = e; left = c.left; right = c.right; bottom = k.3; top = k.4 }))
  spread_to Below o e w h c =
      let k = reach_behind r.y0 r.y1 y near far o h c.bottom c.top in
      (sym c.same, (k.0, k.1, k.2, record { same = e; left = c.left; right = c.right; bottom = k.3; top = k.4 }))

  spread_from : (s : Side) → l ≡ to → Reaches (Covers r from) (way_of s) near far x y
      → Covers (spread_of s to near far r) l x y
  spread_from Right e (k, a, b, c) = let f = c.left in let g = c.right in
      record { same = sym e; left = omega (arith, ints); right = omega (arith, ints); bottom = c.bottom; top = c.top }
  spread_from Left e (k, a, b, c) = let f = c.left in let g = c.right in
      record { same = sym e; left = omega (arith, ints); right = omega (arith, ints); bottom = c.bottom; top = c.top }
  spread_from Above e (k, a, b, c) = let f = c.bottom in let g = c.top in
      record { same = sym e; left = c.left; right = c.right; bottom = omega (arith, ints); top = omega (arith, ints) }
  spread_from Below e (k, a, b, c) = let f = c.bottom in let g = c.top in
      record { same = sym e; left = c.left; right = c.right; bottom = omega (arith, ints); top = omega (arith, ints) }

pub covered_more : (rs : List Rect) (q : Rect) (l : Layer) (x y : ℤ)
    → covered (rs ++ q ∷ []) l x y ↔ covered rs l x y ⊎ Covers q l x y
covered_more [] q l x y = (
  λ h. elim h [ inl a ↦ inr a | inr a ↦ inl a ],
  λ h. elim h [ inl a ↦ inr a | inr a ↦ inl a ],
)
covered_more (r ∷ rs) q l x y =
    let g = covered_more rs q l x y in (
      λ h. elim h [
        | inl a ↦ inl (inl a)
        | inr a ↦ elim (g.0 a) [ inl b ↦ inl (inr b) | inr b ↦ inr b ]
      ],
      λ h. elim h [
        | inl a ↦ elim a [ inl b ↦ inl b | inr b ↦ inr (g.1 (inl b)) ]
        | inr a ↦ inr (g.1 (inr a))
      ],
    )

-- ---- the spread of a list, rectangle by rectangle

module _ (from to : Layer) (reach : Reach) (old : List Rect) where
  abbrev Near : (ℤ → ℤ → Type 0) → ℤ → ℤ → Type 0
  Near on x y = Reaches on (way_of reach.side) reach.near reach.far x y

  pub spread_none : AreSpread (covered [] from) to reach old old
  spread_none = record { each = λ l x y. (λ h. inl h, λ h. elim h [ inl a ↦ a | inr a ↦ absurd a.1.3 ]) }

  spread_more : (xs : List Rect) (r : Rect) (now next : List Rect) → AreSpread (covered xs from) to reach old now
      → ((l : Layer) (x y : ℤ) → covered next l x y ↔ covered now l x y ⊎ (l ≡ to) × Near (Covers r from) x y)
      → AreSpread (covered (xs ++ r ∷ []) from) to reach old next
  spread_more xs r now next are step = record {
    each = λ l x y.
        let s = step l x y in
        let t = are.each l x y in (
          λ h. elim (s.0 h) [
            | inl c ↦ elim (t.0 c) [
              | inl o ↦ inl o
              | inr m ↦ inr (m.0, (m.1.0, m.1.1, m.1.2, (more x y m.1.0).1 (inl m.1.3)))
            ]
            | inr m ↦ inr (m.0, (m.1.0, m.1.1, m.1.2, (more x y m.1.0).1 (inr m.1.3)))
          ],
          λ h. elim h [
            | inl o ↦ s.1 (inl (t.1 (inl o)))
            | inr m ↦ elim ((more x y m.1.0).0 m.1.3) [
              | inl c ↦ s.1 (inl (t.1 (inr (m.0, (m.1.0, m.1.1, m.1.2, c)))))
              | inr c ↦ s.1 (inr (m.0, (m.1.0, m.1.1, m.1.2, c)))
            ]
          ],
        );
  }
    where
      more : (x y : ℤ) (k : ℕ)
          → At (covered (xs ++ r ∷ []) from) (way_of reach.side) x y k
          ↔ At (covered xs from) (way_of reach.side) x y k ⊎ At (Covers r from) (way_of reach.side) x y k
      more x y k = covered_more xs r from (to_x (way_of reach.side) x k) (to_y (way_of reach.side) y k)

  -- a rectangle that has no square of the layer changes nothing
  pub spread_passed : (xs : List Rect) (r : Rect) (now : List Rect) → AreSpread (covered xs from) to reach old now
      → ((x y : ℤ) → ¬ Covers r from x y) → AreSpread (covered (xs ++ r ∷ []) from) to reach old now
  spread_passed xs r now are none = spread_more xs r now now are
      (λ l x y. (λ h. inl h, λ h. elim h [ inl a ↦ a | inr a ↦ absurd (none _ _ a.1.3) ]))

  pub spread_added : (xs : List Rect) (r : Rect) (now next : List Rect) → AreSpread (covered xs from) to reach old now
      → reach.near ≤ reach.far → r.layer ≡ from → r.x0 <ℤ r.x1 → r.y0 <ℤ r.y1
      → next ≡ now ++ spread_of reach.side to reach.near reach.far r ∷ []
      → AreSpread (covered (xs ++ r ∷ []) from) to reach old next
  spread_added xs r now next are o e w h is =
      let q = spread_of reach.side to reach.near reach.far r in
      subst (λ z. AreSpread (covered (xs ++ r ∷ []) from) to reach old z) (sym is)
      (spread_more xs r now (now ++ q ∷ []) are
      (λ l x y. let g = covered_more now q l x y in (
        λ c. elim (g.0 c) [
          | inl a ↦ inl a
          | inr a ↦ inr (spread_to to from reach.near reach.far r l x y reach.side o e w h a)
        ],
        λ c. elim c [
          | inl a ↦ g.1 (inl a)
          | inr a ↦ g.1 (inr (spread_from to from reach.near reach.far r l x y reach.side a.0 a.1))
        ],
      )))

-- ---- what one spread adds

module _ (on : ℤ → ℤ → Type 0) (layer : Layer) (reach : Reach) (old new : List Rect)
    (a : AreSpread on layer reach old new) (x y : ℤ) where
  pub spread_own : covered new layer x y
      ↔ covered old layer x y ⊎ Reaches on (way_of reach.side) reach.near reach.far x y
  spread_own =
      let s = a.each layer x y in (
        λ h. elim (s.0 h) [ inl c ↦ inl c | inr m ↦ inr m.1 ],
        λ h. elim h [ inl c ↦ s.1 (inl c) | inr m ↦ s.1 (inr (refl, m)) ],
      )

  pub spread_other : (l : Layer) → l ≢ layer → covered new l x y ↔ covered old l x y
  spread_other l n =
      let s = a.each l x y in (
        λ h. elim (s.0 h) [ inl c ↦ c | inr m ↦ absurd (n m.0) ],
        λ h. s.1 (inl h),
      )

-- ---- squares in one direction

pub at_zero : (on : ℤ → ℤ → Type 0) (w : Way) (x y : ℤ) → on x y ↔ At on w x y 0
at_zero on right x y = let e : x ≡ x +ℤ pos 0 = omega (arith, ints) in
    (λ h. subst (λ z. on z y) e h, λ h. subst (λ z. on z y) (sym e) h)
at_zero on left x y = let e : x ≡ x +ℤ neg_ℤ (pos 0) = omega (arith, ints) in
    (λ h. subst (λ z. on z y) e h, λ h. subst (λ z. on z y) (sym e) h)
at_zero on up x y = let e : y ≡ y +ℤ pos 0 = omega (arith, ints) in
    (λ h. subst (λ z. on x z) e h, λ h. subst (λ z. on x z) (sym e) h)
at_zero on down x y = let e : y ≡ y +ℤ neg_ℤ (pos 0) = omega (arith, ints) in
    (λ h. subst (λ z. on x z) e h, λ h. subst (λ z. on x z) (sym e) h)

pub reaches_one : (on : ℤ → ℤ → Type 0) (w : Way) (n : ℕ) (x y : ℤ) → Reaches on w n n x y → At on w x y n
reaches_one on w n x y (k, a, b, h) = let e : k ≡ n = omega arith in subst (λ z. At on w x y z) e h
