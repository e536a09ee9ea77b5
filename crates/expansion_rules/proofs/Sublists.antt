-- Lists of which each item belongs to one of another list, in the same order.
use Rattle.std.proofs.Common.{◌≡◌, ◌∙◌, ℕ, zero, suc, ◌<◌, ◌≤◌, List, [], ◌∷◌, ◌++◌, Bool, refl, ap, subst, arith}
use Rattle.std.proofs.Common.{inl, inr}
use Rattle.std.specs.Prelude.{Option, Some, None, slice_get, if◌then◌else◌}
use Rattle.std.specs.List.{filter_map, cons_option, count_by}
use Rattle.std.proofs.lemmas.List.Sums.{sum_by-cons}
use Rattle.std.proofs.lemmas.Bool.{cases_lt}
use Rattle.std.proofs.lemmas.Option.{none-some, same_Some}
use Rattle.mp_base.specs.Entries.{IsAt}

pub data Sub {X Y : Type 0} (R : X → Y → Type 0) : List X → List Y → Type 0 where
  none : Sub R [] []
  skip : {xs : List X} {ys : List Y} → (y : Y) → Sub R xs ys → Sub R xs (y ∷ ys)
  keep : {xs : List X} {ys : List Y} → (x : X) (y : Y) → R x y → Sub R xs ys → Sub R (x ∷ xs) (y ∷ ys)

module _ {X Y : Type 0} (R : X → Y → Type 0) where
  -- the index of what the item at k belongs to
  abbrev pub index : (xs : List X) (ys : List Y) → Sub R xs ys → ℕ → ℕ
  index _ _ none k = k
  index _ _ (skip {xs = xs} {ys = ys} y s) k = suc (index xs ys s k)
  index _ _ (keep {xs = xs} {ys = ys} x y r s) zero = zero
  index _ _ (keep {xs = xs} {ys = ys} x y r s) (suc k) = suc (index xs ys s k)

  pub belongs : (xs : List X) (ys : List Y) (s : Sub R xs ys) (k : ℕ) (x : X) → IsAt xs k x
      → (y : Y) × IsAt ys (index xs ys s k) y × R x y
  belongs _ _ none k x at = absurd (none-some x at)
  belongs _ _ (skip {xs = xs} {ys = ys} z s) k x at = belongs xs ys s k x at
  belongs _ _ (keep {xs = xs} {ys = ys} u z r s) zero x at = (z, refl, subst (λ v. R v z) (same_Some u x at) r)
  belongs _ _ (keep {xs = xs} {ys = ys} u z r s) (suc k) x at = belongs xs ys s k x at

  pub rises : (xs : List X) (ys : List Y) (s : Sub R xs ys) (j k : ℕ) → j < k → index xs ys s j < index xs ys s k
  rises _ _ none j k lt = lt
  rises _ _ (skip {xs = xs} {ys = ys} y s) j k lt = let less = rises xs ys s j k lt in omega (arith, less)
  rises _ _ (keep {xs = xs} {ys = ys} x y r s) j zero lt = absurd (omega (arith, lt))
  rises _ _ (keep {xs = xs} {ys = ys} x y r s) zero (suc k) lt = omega arith
  rises _ _ (keep {xs = xs} {ys = ys} x y r s) (suc j) (suc k) lt =
      let less = rises xs ys s j k (omega (arith, lt)) in omega (arith, less)

  pub one_index : (xs : List X) (ys : List Y) (s : Sub R xs ys) (j k : ℕ) → index xs ys s j ≡ index xs ys s k → j ≡ k
  one_index xs ys s j k e = elim (cases_lt j k) [
    | inl lt ↦ absurd (let less = rises xs ys s j k lt in omega (arith, less, e))
    | inr ge ↦ elim (cases_lt k j) [
      | inl lt ↦ absurd (let less = rises xs ys s k j lt in omega (arith, less, e))
      | inr le ↦ omega (arith, ge, le)
    ]
  ]

pub skips : {X Y : Type 0} (R : X → Y → Type 0) (xs : List X) (zs ys : List Y) → Sub R xs ys → Sub R xs (zs ++ ys)
skips R xs [] ys s = s
skips R xs (z ∷ zs) ys s = skip z (skips R xs zs ys s)

-- ---- of the same items

abbrev pub Same : {X : Type 0} → X → X → Type 0
Same x y = x ≡ y

pub all_same : {X : Type 0} (xs : List X) → Sub Same xs xs
all_same [] = none
all_same (x ∷ xs) = keep x x refl (all_same xs)

pub both : {X Y : Type 0} (R : X → Y → Type 0) (xs us : List X) (ys vs : List Y) → Sub R xs ys → Sub R us vs
    → Sub R (xs ++ us) (ys ++ vs)
both R _ us _ vs none t = t
both R _ us _ vs (skip {xs = xs} {ys = ys} y s) t = skip y (both R xs us ys vs s t)
both R _ us _ vs (keep {xs = xs} {ys = ys} x y r s) t = keep x y r (both R xs us ys vs s t)

pub fewer : {X : Type 0} (test : X → Bool) (xs ys : List X) → Sub Same xs ys → count_by test xs ≤ count_by test ys
fewer {X} test _ _ none = omega arith
fewer {X} test _ _ (skip {xs = xs} {ys = ys} y s) =
    let less = fewer test xs ys s in
    omega (arith, less, sum_by-cons (λ z. if test z then 1 else 0) y ys)
fewer {X} test _ _ (keep {xs = xs} {ys = ys} x y r s) =
    let less = fewer test xs ys s in
    let one : X → ℕ = λ z. if test z then 1 else 0 in
    let same = ap one r in
    omega (arith, less, same, sum_by-cons one x xs, sum_by-cons one y ys)

-- ---- what is kept of a list

abbrev pub Kept : {X Y : Type 0} → (Y → Option X) → X → Y → Type 0
Kept h x y = h y ≡ Some x

pub kept : {X Y : Type 0} (h : Y → Option X) (ys : List Y) → Sub (Kept h) (filter_map h ys) ys
kept h [] = none
kept {X} h (y ∷ ys) = by_first (h y) refl (kept h ys)
  where
    by_first : (o : Option X) → h y ≡ o → Sub (Kept h) (filter_map h ys) ys
        → Sub (Kept h) (cons_option o (filter_map h ys)) (y ∷ ys)
    by_first None e s = skip y s
    by_first (Some x) e s = keep x y e s

-- what is kept is there
pub is_kept : {X Y : Type 0} (h : Y → Option X) (ys : List Y) (i : ℕ) (y : Y) (x : X) → IsAt ys i y → h y ≡ Some x
    → (k : ℕ) × IsAt (filter_map h ys) k x
is_kept h [] i y x at e = absurd (none-some y at)
is_kept h (z ∷ ys) zero y x at e =
    (0, ap (λ o. slice_get (cons_option o (filter_map h ys)) 0) (ap h (same_Some z y at) ∙ e))
is_kept {X} h (z ∷ ys) (suc i) y x at e = further (h z) (is_kept h ys i y x at e)
  where
    further : (o : Option X) → (k : ℕ) × IsAt (filter_map h ys) k x → (k : ℕ) × IsAt (cons_option o (filter_map h ys)) k x
    further None (k, there) = (k, there)
    further (Some u) (k, there) = (suc k, there)
