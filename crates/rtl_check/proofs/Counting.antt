-- Lists with exactly one element that passes a test.
use Rattle.std.proofs.Common.{◌≡◌, ◌∙◌, ℕ, zero, suc, ◌+◌, List, [], ◌∷◌, Bool, true, false, cond, refl, ap, arith}
use Rattle.std.specs.List.{count_by}
use Rattle.std.proofs.lemmas.Bool.{both_ways}
use Rattle.std.proofs.lemmas.List.Sums.{sum_by-cons}
use Rattle.std.proofs.lemmas.Option.{same_Some, none-some}
use Rattle.mp_base.specs.Entries.{IsAt}

-- exactly one element passes
abbrev pub IsOnce : {X : Type 0} → (X → Bool) → List X → Type 0
IsOnce {X} p xs = (c : ℕ) × ((x : X) × IsAt xs c x × (p x ≡ true))
    × ((d : ℕ) (y : X) → IsAt xs d y → p y ≡ true → d ≡ c)

-- no element passes
abbrev IsNever : {X : Type 0} → (X → Bool) → List X → Type 0
IsNever {X} p xs = (k : ℕ) (x : X) → IsAt xs k x → p x ≡ true → ⊥

module _ {X : Type 0} (p : X → Bool) where
  counted : (z : X) (zs : List X) (b : Bool) → p z ≡ b → count_by p (z ∷ zs) ≡ cond {A = ℕ} b 1 0 + count_by p zs
  counted z zs b e = sum_by-cons (λ y. cond (p y) 1 0) z zs ∙ ap (λ b. cond {A = ℕ} b 1 0 + count_by p zs) e

  never_first : (z : X) (zs : List X) (b : Bool) → p z ≡ b → (b ≡ false → IsNever p zs) → count_by p (z ∷ zs) ≡ 0
      → IsNever p (z ∷ zs)
  never_first z zs true e later none k x at h =
      let step = counted z zs true e in absurd (omega (arith, step, none))
  never_first z zs false e later none zero x at h = both_ways (p z) e (ap p (same_Some z x at) ∙ h)
  never_first z zs false e later none (suc k) x at h = later refl k x at h

  none_counted : (xs : List X) → count_by p xs ≡ 0 → IsNever p xs
  none_counted [] none = λ k x at h. none-some x at
  none_counted (z ∷ zs) none =
      never_first z zs (p z) refl
      (λ f. none_counted zs (let step = counted z zs false f in omega (arith, step, none))) none

  count_first : (z : X) (zs : List X) (b : Bool) → p z ≡ b → IsNever p (z ∷ zs) → count_by p zs ≡ 0
      → count_by p (z ∷ zs) ≡ 0
  count_first z zs true e none later = absurd (none 0 z refl e)
  count_first z zs false e none later = let step = counted z zs false e in omega (arith, step, later)

  counted_none : (xs : List X) → IsNever p xs → count_by p xs ≡ 0
  counted_none [] none = refl
  counted_none (z ∷ zs) none =
      count_first z zs (p z) refl none
      (counted_none zs (λ k x at h. none (suc k) x at h))

  alone : (z : X) (zs : List X) → IsNever p zs → (d : ℕ) (y : X) → IsAt (z ∷ zs) d y → p y ≡ true → d ≡ 0
  alone z zs none zero y at h = refl
  alone z zs none (suc d) y at h = absurd (none d y at h)

  behind : (z : X) (zs : List X) (c : ℕ) → p z ≡ false → ((d : ℕ) (y : X) → IsAt zs d y → p y ≡ true → d ≡ c)
      → (d : ℕ) (y : X) → IsAt (z ∷ zs) d y → p y ≡ true → d ≡ suc c
  behind z zs c f only zero y at h = absurd (both_ways (p z) f (ap p (same_Some z y at) ∙ h))
  behind z zs c f only (suc d) y at h =
      let same = only d y at h in omega (arith, same)

  once_first : (z : X) (zs : List X) (b : Bool) → p z ≡ b → (b ≡ false → IsOnce p zs) → count_by p (z ∷ zs) ≡ 1
      → IsOnce p (z ∷ zs)
  once_first z zs true e later one =
      let step = counted z zs true e in
      (0, (z, refl, e), alone z zs (none_counted zs (omega (arith, step, one))))
  once_first z zs false e later one =
      let (c, (x, at, h), only) = later refl in
      (suc c, (x, at, h), behind z zs c e only)

  pub once_counted : (xs : List X) → count_by p xs ≡ 1 → IsOnce p xs
  once_counted [] one = absurd (omega (arith, one))
  once_counted (z ∷ zs) one =
      once_first z zs (p z) refl
      (λ f. once_counted zs (let step = counted z zs false f in omega (arith, step, one))) one

  found_behind : (z : X) (zs : List X) → p z ≡ false → (c : ℕ) (x : X) → IsAt (z ∷ zs) c x → p x ≡ true
      → ((d : ℕ) (y : X) → IsAt (z ∷ zs) d y → p y ≡ true → d ≡ c) → IsOnce p zs
  found_behind z zs f zero x at h only = absurd (both_ways (p z) f (ap p (same_Some z x at) ∙ h))
  found_behind z zs f (suc c) x at h only = (
    c,
    (x, at, h),
    λ d y at' t. let e = only (suc d) y at' t in omega (arith, e),
  )

  never_behind : (z : X) (zs : List X) (c : ℕ) → p z ≡ true
      → ((d : ℕ) (y : X) → IsAt (z ∷ zs) d y → p y ≡ true → d ≡ c) → IsNever p zs
  never_behind z zs c e only k y at h =
      let first = only 0 z refl e in
      let other = only (suc k) y at h in
      absurd (omega (arith, first, other))

  one_first : (z : X) (zs : List X) (b : Bool) → p z ≡ b → (b ≡ false → count_by p zs ≡ 1)
      → (b ≡ true → count_by p zs ≡ 0) → count_by p (z ∷ zs) ≡ 1
  one_first z zs true e later none =
      let step = counted z zs true e in let rest = none refl in omega (arith, step, rest)
  one_first z zs false e later none =
      let step = counted z zs false e in let rest = later refl in omega (arith, step, rest)

  pub counted_once : (xs : List X) → IsOnce p xs → count_by p xs ≡ 1
  counted_once [] (c, (x, at, h), only) = absurd (none-some x at)
  counted_once (z ∷ zs) (c, (x, at, h), only) =
      one_first z zs (p z) refl (λ f. counted_once zs (found_behind z zs f c x at h only))
      (λ e. counted_none zs (never_behind z zs c e only))
