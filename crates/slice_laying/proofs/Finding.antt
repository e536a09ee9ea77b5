-- What a search by the number of a net finds: the one that is counted.
use Rattle.std.proofs.Common.{◌≡◌, inl, inr, ℕ, zero, suc, ◌<◌, ◌≤◌, ◌+◌, Option, Some, None, Bool, true, false}
use Rattle.std.proofs.Common.{cond, eqb, List, [], ◌∷◌, map, refl, sym, ◌∙◌, ap, arith}
use Rattle.std.specs.Prelude.{Contains, slice_get}
use Rattle.std.specs.Option.{option_or}
use Rattle.std.proofs.Math.Arith.{le-zero}
use Rattle.std.proofs.lemmas.Bool.{cases_Bool, eq-eqb, eqb-true, true≢false}
use Rattle.std.proofs.lemmas.Option.{none-some, same_Some}
use Rattle.nor_net.specs.declared.net.NetId.{NetId}
use Rattle.nor_net.specs.Elements.{Element}
use Rattle.organelles.specs.Slices.{first_some}
use Rattle.path_form.specs.Shape.{times}

-- the head of a count
pub head_off : (t : Bool) (m k : ℕ) → t ≡ false → cond t 1 0 + m ≤ k → m ≤ k
head_off true m k e h = absurd (true≢false e)
head_off false m k e h = omega (arith, h)

pub head_on : (t : Bool) (m : ℕ) → t ≡ true → cond t 1 0 + m ≤ 1 → m ≡ 0
head_on true m e h = omega (arith, h)
head_on false m e h = absurd (true≢false (sym e))

pub some_on : (t : Bool) (m : ℕ) → t ≡ true → 0 < cond t 1 0 + m
some_on true m e = omega arith
some_on false m e = absurd (true≢false (sym e))

pub more_on : (t : Bool) (m : ℕ) → 0 < m → 0 < cond t 1 0 + m
more_on true m h = omega arith
more_on false m h = omega (arith, h)

-- a net that is counted is there
pub counted_there : (ids : List NetId) (n : ℕ) → 0 < times n ids → Contains (map (λ (id : NetId). id.0) ids) n
counted_there [] n h = absurd (omega (arith, h))
counted_there (x ∷ xs) n h = elim (cases_Bool (eqb x.0 n)) [
  | inl t ↦ (0, omega arith, eqb-true x.0 n t)
  | inr t ↦ (let c = counted_there xs n (rest (eqb x.0 n) (times n xs) t h) in
      (suc c.0, (let m = c.1 in omega (arith, m)), c.2))
]
  where
    rest : (t : Bool) (m : ℕ) → t ≡ false → 0 < cond t 1 0 + m → 0 < m
    rest true m e h = absurd (true≢false e)
    rest false m e h = omega (arith, h)

module _ {A : Type 0} (key : A → NetId) where
  pub counted : (xs : List A) (i : ℕ) (x : A) (n : ℕ) → slice_get xs i ≡ Some x → (key x).0 ≡ n
      → 0 < times n (map key xs)
  counted [] i x n h e = absurd (none-some x h)
  counted (y ∷ ys) zero x n h e =
      some_on (eqb (key y).0 n) (times n (map key ys))
      (eq-eqb (key y).0 n (ap (λ z. (key z).0) (same_Some y x h) ∙ e))
  counted (y ∷ ys) (suc i) x n h e =
      more_on (eqb (key y).0 n) (times n (map key ys)) (counted ys i x n h e)

  -- what is counted once stands once
  pub once : (xs : List A) (i j : ℕ) (x y : A) (n : ℕ) → times n (map key xs) ≤ 1 → slice_get xs i ≡ Some x
      → slice_get xs j ≡ Some y → (key x).0 ≡ n → (key y).0 ≡ n → i ≡ j
  once [] i j x y n l h k e f = absurd (none-some x h)
  once (z ∷ zs) zero zero x y n l h k e f = refl
  once (z ∷ zs) zero (suc j) x y n l h k e f =
      absurd
      (let a = counted zs j y n k f in
      let b = head_on (eqb (key z).0 n) (times n (map key zs))
      (eq-eqb (key z).0 n (ap (λ z. (key z).0) (same_Some z x h) ∙ e)) l in omega (arith, a, b))
  once (z ∷ zs) (suc i) zero x y n l h k e f =
      absurd
      (let a = counted zs i x n h e in
      let b = head_on (eqb (key z).0 n) (times n (map key zs))
      (eq-eqb (key z).0 n (ap (λ z. (key z).0) (same_Some z y k) ∙ f)) l in omega (arith, a, b))
  once (z ∷ zs) (suc i) (suc j) x y n l h k e f =
      ap suc (once zs i j x y n (less (eqb (key z).0 n) (times n (map key zs)) l) h k e f)
    where
      less : (t : Bool) (m : ℕ) → cond t 1 0 + m ≤ 1 → m ≤ 1
      less true m h = omega (arith, h)
      less false m h = omega (arith, h)

  module _ (f : A → Option Element) (g : A → Element) (n : ℕ)
      (is : (x : A) → f x ≡ cond (eqb (key x).0 n) (Some (g x)) None)
    where
      on : (x : A) (xs : List A) → eqb (key x).0 n ≡ true → first_some f (x ∷ xs) ≡ Some (g x)
      on x xs t = ap (λ o. option_or o (first_some f xs)) (is x ∙ ap (λ b. cond b (Some (g x)) None) t)

      off : (x : A) (xs : List A) → eqb (key x).0 n ≡ false → first_some f (x ∷ xs) ≡ first_some f xs
      off x xs t = ap (λ o. option_or o (first_some f xs)) (is x ∙ ap (λ b. cond b (Some (g x)) None) t)

      -- what is found has the number
      pub found_at : (xs : List A) (e : Element) → first_some f xs ≡ Some e
          → (i : ℕ) × (x : A) × (slice_get xs i ≡ Some x) × ((key x).0 ≡ n) × (g x ≡ e)
      found_at [] e h = absurd (none-some e h)
      found_at (x ∷ xs) e h = elim (cases_Bool (eqb (key x).0 n)) [
        | inl t ↦ (0, x, refl, eqb-true (key x).0 n t, same_Some (g x) e (sym (on x xs t) ∙ h))
        | inr t ↦ (let w = found_at xs e (sym (off x xs t) ∙ h) in (suc w.0, w.1, w.2, w.3, w.4))
      ]

      -- none is found where none is counted
      pub absent : (xs : List A) → times n (map key xs) ≡ 0 → first_some f xs ≡ None
      absent [] e = refl
      absent (x ∷ xs) e = elim (cases_Bool (eqb (key x).0 n)) [
        | inl t ↦ absurd
            (let s = some_on (eqb (key x).0 n) (times n (map key xs)) t in
            let z : cond (eqb (key x).0 n) 1 0 + times n (map key xs) ≡ 0 = e in omega (arith, s, z))
        | inr t ↦ off x xs t
            ∙ absent xs (le-zero
            (head_off (eqb (key x).0 n) (times n (map key xs)) 0 t
            (let z : cond (eqb (key x).0 n) 1 0 + times n (map key xs) ≡ 0 = e in omega (arith, z))))
      ]

      pub none_counted : (xs : List A) → first_some f xs ≡ None → times n (map key xs) ≡ 0
      none_counted [] h = refl
      none_counted (x ∷ xs) h = elim (cases_Bool (eqb (key x).0 n)) [
        | inl t ↦ absurd (none-some (g x) (sym h ∙ on x xs t))
        | inr t ↦ ap (λ b. cond b 1 0 + times n (map key xs)) t
            ∙ (let i = none_counted xs (sym (off x xs t) ∙ h) in
            let e : 0 + times n (map key xs) ≡ 0 = omega (arith, i) in e)
      ]

      -- the one that is counted is found
      pub found : (xs : List A) (i : ℕ) (x : A) → slice_get xs i ≡ Some x → (key x).0 ≡ n
          → times n (map key xs) ≤ 1 → first_some f xs ≡ Some (g x)
      found [] i x h e l = absurd (none-some x h)
      found (y ∷ ys) zero x h e l =
          on y ys (eq-eqb (key y).0 n (ap (λ z. (key z).0) (same_Some y x h) ∙ e))
          ∙ ap (λ z. Some (g z)) (same_Some y x h)
      found (y ∷ ys) (suc i) x h e l = elim (cases_Bool (eqb (key y).0 n)) [
        | inl t ↦ absurd
            (let a = counted ys i x n h e in
            let b = head_on (eqb (key y).0 n) (times n (map key ys)) t l in omega (arith, a, b))
        | inr t ↦ off y ys t ∙ found ys i x h e (head_off (eqb (key y).0 n) (times n (map key ys)) 1 t l)
      ]
