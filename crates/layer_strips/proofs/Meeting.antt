-- The strips of a row that touch a strip end no further to the left than it begins, and begin no further to the right
-- than it ends.
use Rattle.std.proofs.Common.{ℕ, ◌≡◌, ◌⊎◌, inl, inr, sym, ap, ◌∙◌, subst, arith, ◌++◌, ◌∷◌, [], List, Option, Some}
use Rattle.std.proofs.Common.{None}
use Rattle.std.specs.Prelude.{⊤, ℤ, ◌≤ℤ◌, ◌<ℤ◌, Contains, min, max}
use Rattle.std.proofs.lemmas.Bool.{cases_lt}
use Rattle.std.proofs.lemmas.Int.{ints, by_lt_z}
use Rattle.std.proofs.lemmas.Option.{same_Some}
use Rattle.std.proofs.lemmas.List.Elements.{All-push, Contains-append_left, Contains-push}
use Rattle.lam_geom.specs.declared.rect.Rect.{Rect}
use Rattle.lam_geom.specs.Squares.{Touch}
use Rattle.layer_strips.specs.Sweep.{strip, IsRow, IsNext, IsPair, Grows, Joins, Answers}

-- ---- pairs that were added

pub grows_none : (strips : List Rect) (pairs : List (ℕ × ℕ)) → Grows strips pairs pairs
grows_none strips pairs = record { kept = λ p h. h; sound = λ h. h }

pub grows_one : (strips : List Rect) (old new : List (ℕ × ℕ)) (p : ℕ × ℕ) → new ≡ old ++ p ∷ [] → IsPair strips p
    → Grows strips old new
grows_one strips old new p e h = subst (Grows strips old) (sym e) (record {
  kept = λ q k. Contains-append_left old (p ∷ []) q k;
  sound = λ all. All-push (IsPair strips) old p all h;
})

pub has_one : (old new : List (ℕ × ℕ)) (p : ℕ × ℕ) → new ≡ old ++ p ∷ [] → Contains new p
has_one old new p e = subst (λ ps. Contains ps p) (sym e) (Contains-push old p)

pub grows_more : (strips : List Rect) (old mid new : List (ℕ × ℕ)) → Grows strips old mid → Grows strips mid new
    → Grows strips old new
grows_more strips old mid new g h = record { kept = λ p k. h.kept p (g.kept p k); sound = λ k. h.sound (g.sound k) }

-- ---- rectangles that touch

pub record Near (r q : Rect) : Type 0 where
  pub left : r.x0 ≤ℤ q.x1
  pub right : q.x0 ≤ℤ r.x1
  pub low : r.y0 ≤ℤ q.y1
  pub high : q.y0 ≤ℤ r.y1

pub near : (r q : Rect) → Touch r q → Near r q
near r q t =
    let a = t.in_first.left in
    let b = t.in_first.right in
    let c = t.in_first.bottom in
    let d = t.in_first.top in
    let e = t.in_second.left in
    let f = t.in_second.right in
    let g = t.in_second.bottom in
    let h = t.in_second.top in
    elim t.meet [
      | inl m ↦
          let x = m.0 in
          let y = m.1 in
          record {
            left = omega (arith, ints);
            right = omega (arith, ints);
            low = omega (arith, ints);
            high = omega (arith, ints);
          }
      | inr m ↦ elim m [
        | inl o ↦
            let y = o.0 in
            elim o.1 [
              | inl x ↦
                  record {
                    left = omega (arith, ints);
                    right = omega (arith, ints);
                    low = omega (arith, ints);
                    high = omega (arith, ints);
                  }
              | inr x ↦
                  record {
                    left = omega (arith, ints);
                    right = omega (arith, ints);
                    low = omega (arith, ints);
                    high = omega (arith, ints);
                  }
            ]
        | inr o ↦
            let x = o.0 in
            elim o.1 [
              | inl y ↦
                  record {
                    left = omega (arith, ints);
                    right = omega (arith, ints);
                    low = omega (arith, ints);
                    high = omega (arith, ints);
                  }
              | inr y ↦
                  record {
                    left = omega (arith, ints);
                    right = omega (arith, ints);
                    low = omega (arith, ints);
                    high = omega (arith, ints);
                  }
            ]
      ]
    ]

-- the two numbers in their order are these, or these
pub ordered : (P : ℕ → ℕ → Type 0) (i j : ℕ) → P i j ⊎ P j i → P (min i j) (max i j) ⊎ P (max i j) (min i j)
ordered P i j h = elim (cases_lt i j) [
  | inl l ↦
      let a : i ≡ min i j = omega arith in
      let b : j ≡ max i j = omega arith in
      subst (λ x. P x (max i j) ⊎ P (max i j) x) a (subst (λ x. P i x ⊎ P x i) b h)
  | inr l ↦
      let a : i ≡ max i j = omega arith in
      let b : j ≡ min i j = omega arith in
      subst (λ x. P (min i j) x ⊎ P x (min i j)) a
      (subst (λ x. P x i ⊎ P i x) b (elim h [ inl p ↦ inr p | inr p ↦ inl p ]))
]

-- strips of which one ends before the other begins are joined for nothing
apart : (strips : List Rect) (i j : ℕ) (pairs : List (ℕ × ℕ))
    → ((strip strips j).x1 <ℤ (strip strips i).x0) ⊎ ((strip strips i).x1 <ℤ (strip strips j).x0)
    → Joins strips i j pairs
apart strips i j pairs h = λ l t.
    let n = near (strip strips (min i j)) (strip strips (max i j)) t in
    let a = n.left in
    let b = n.right in
    elim (ordered (λ u v. (strip strips v).x1 <ℤ (strip strips u).x0) i j h) [
      | inl e ↦ absurd (omega (arith, ints))
      | inr e ↦ absurd (omega (arith, ints))
    ]

-- ---- the strips of the row in turn

-- the place is before the next entry
abbrev pub Before : ℤ → Option (ℤ × ℕ) → Type 0
Before k (Some p) = k <ℤ p.0
Before k None = ⊤

-- the entry is in the row
abbrev pub IsIn : (ℤ → Option ℕ) → Option (ℤ × ℕ) → Type 0
IsIn row (Some p) = row p.0 ≡ Some p.1
IsIn row None = ⊤

-- those before the next entry are done
pub record IsAsked (strips : List Rect) (i : ℕ) (row : ℤ → Option ℕ) (old pairs : List (ℕ × ℕ))
    (next : Option (ℤ × ℕ)) : Type 0 where
  pub grows : Grows strips old pairs
  pub is_in : IsIn row next
  pub done : (k : ℤ) (j : ℕ) → row k ≡ Some j → Before k next → Joins strips i j pairs

module _ (strips : List Rect) (i : ℕ) (row : ℤ → Option ℕ) (is : IsRow strips row) where
  no_entry : (k : ℤ) (j : ℕ) → row k ≡ Some j → row k ≡ None → ⊥
  no_entry k j e f = grind arith

  pub asked_first : (pairs : List (ℕ × ℕ)) (next : Option (ℤ × ℕ)) → IsNext row (λ k. (strip strips i).x0 ≤ℤ k) next
      → IsAsked strips i row pairs pairs next
  asked_first pairs next h = record {
    grows = grows_none strips pairs;
    is_in = in_first next h;
    done = λ k j e b. by_lt_z k (strip strips i).x0
        (λ l. let a : (strip strips j).x1 ≡ k = (is.each k j e).1 in apart strips i j pairs (inl (omega (arith, ints))))
        (λ l. absurd (before_first next h k j e b l));
  }
    where
      in_first : (next : Option (ℤ × ℕ)) → IsNext row (λ k. (strip strips i).x0 ≤ℤ k) next → IsIn row next
      in_first (Some p) h = h.0
      in_first None h = tt

      before_first : (next : Option (ℤ × ℕ)) → IsNext row (λ k. (strip strips i).x0 ≤ℤ k) next → (k : ℤ) (j : ℕ)
          → row k ≡ Some j
          → Before k next → (strip strips i).x0 ≤ℤ k → ⊥
      before_first (Some p) h k j e b l = no_entry k j e (h.2 k l b)
      before_first None h k j e b l = no_entry k j e (h k l)

  -- up to the next entry, which is done too
  up_to : (old mid pairs : List (ℕ × ℕ)) (p : ℤ × ℕ) → IsAsked strips i row old mid (Some p) → Grows strips mid pairs
      → Joins strips i p.1 pairs
      → (k : ℤ) (j : ℕ) → row k ≡ Some j → k ≤ℤ p.0 → Joins strips i j pairs
  up_to old mid pairs p h g one = λ k j e l. by_lt_z k p.0
      (λ m. λ x y. g.kept _ (h.done k j e m x y))
      (λ m.
      let a : p.0 ≡ k = omega (arith, ints) in
      let b : p.1 ≡ j = same_Some p.1 j (sym h.is_in ∙ ap row a ∙ e) in
      subst (λ z. Joins strips i z pairs) b one)

  pub asked_more : (old mid pairs : List (ℕ × ℕ)) (p : ℤ × ℕ) (next : Option (ℤ × ℕ))
      → IsAsked strips i row old mid (Some p)
      → Grows strips mid pairs
      → Joins strips i p.1 pairs → IsNext row (λ k. p.0 <ℤ k) next → IsAsked strips i row old pairs next
  asked_more old mid pairs p next h g one n = record {
    grows = grows_more strips old mid pairs h.grows g;
    is_in = in_next next n;
    done = λ k j e b. by_lt_z p.0 k (λ l. absurd (before_next next n k j e b l))
        (λ l. up_to old mid pairs p h g one k j e l);
  }
    where
      in_next : (next : Option (ℤ × ℕ)) → IsNext row (λ k. p.0 <ℤ k) next → IsIn row next
      in_next (Some q) h = h.0
      in_next None h = tt

      before_next : (next : Option (ℤ × ℕ)) → IsNext row (λ k. p.0 <ℤ k) next → (k : ℤ) (j : ℕ) → row k ≡ Some j
          → Before k next
          → p.0 <ℤ k → ⊥
      before_next (Some q) h k j e b l = no_entry k j e (h.2 k l b)
      before_next None h k j e b l = no_entry k j e (h k l)

  pub asked_all : (old pairs : List (ℕ × ℕ)) → IsAsked strips i row old pairs None → Answers strips i row pairs
  asked_all old pairs h = λ k j e. h.done k j e tt

  -- those that end beyond one that ends beyond the strip begin there
  pub asked_enough : (old mid pairs : List (ℕ × ℕ)) (p : ℤ × ℕ) → IsAsked strips i row old mid (Some p)
      → Grows strips mid pairs
      → Joins strips i p.1 pairs
      → (strip strips i).x1 <ℤ p.0 → Answers strips i row pairs
  asked_enough old mid pairs p h g one l = λ k j e. by_lt_z p.0 k
      (λ m. let a = is.apart p.0 k p.1 j h.is_in e m in apart strips i j pairs (inr (omega (arith, ints))))
      (λ m. up_to old mid pairs p h g one k j e m)
