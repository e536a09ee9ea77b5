-- A result meets its equation.
use Rattle.std.proofs.Common.{◌≡◌, ℕ, zero, suc, ◌+◌, ◌<◌, List, [], ◌∷◌, ◌++◌, refl, sym, ◌∙◌, ap, subst, length}
use Rattle.std.proofs.Common.{arith, get_or}
use Rattle.std.proofs.lemmas.List.{get_or_append_left, get_or_at, length-append}
use Rattle.std.proofs.lemmas.Option.{same_Some, none-some}
use Rattle.mp_base.specs.Entries.{IsAt}
use Rattle.rtl_form.specs.Growing.{grown_from, grown}

-- f asks only for results before index i
abbrev pub AsksBefore : {X Y : Type 0} → (X → (ℕ → Y) → Y) → ℕ → X → Type 0
AsksBefore {X} {Y} f i x = (g h : ℕ → Y) → ((k : ℕ) → k < i → g k ≡ h k) → f x g ≡ f x h

longer : {Y : Type 0} (ys : List Y) (y : Y) → length (ys ++ y ∷ []) ≡ suc (length ys)
longer ys y = let e = length-append ys (y ∷ []) in omega (arith, e)

-- results stay
kept : {X Y : Type 0} (none : Y) (f : X → (ℕ → Y) → Y) (ys : List Y) (xs : List X) (k : ℕ) → k < length ys
    → get_or (grown_from none f ys xs) k none ≡ get_or ys k none
kept none f ys [] k lt = refl
kept none f ys (x ∷ xs) k lt =
    let y = f x (λ j. get_or ys j none) in
    let size = longer ys y in
    kept none f (ys ++ y ∷ []) xs k (omega (arith, lt, size)) ∙ get_or_append_left ys (y ∷ []) none k lt

pub length-grown_from : {X Y : Type 0} (none : Y) (f : X → (ℕ → Y) → Y) (ys : List Y) (xs : List X)
    → length (grown_from none f ys xs) ≡ length ys + length xs
length-grown_from none f ys [] = omega arith
length-grown_from none f ys (x ∷ xs) =
    let y = f x (λ j. get_or ys j none) in
    let size = longer ys y in
    let rest = length-grown_from none f (ys ++ y ∷ []) xs in
    omega (arith, size, rest)

grown_at-from : {X Y : Type 0} (none : Y) (f : X → (ℕ → Y) → Y) (ys : List Y) (xs : List X) (i : ℕ) (x : X)
    → IsAt xs i x → AsksBefore f (length ys + i) x
    → get_or (grown_from none f ys xs) (length ys + i) none ≡ f x (λ k. get_or (grown_from none f ys xs) k none)
grown_at-from none f ys [] i x at local = absurd (none-some x at)
grown_at-from none f ys (z ∷ xs) zero x at local =
    let y = f z (λ j. get_or ys j none) in
    let size = longer ys y in
    let e : length ys + 0 ≡ length ys = omega arith in
    ap (λ k. get_or (grown_from none f (ys ++ y ∷ []) xs) k none) e
    ∙ kept none f (ys ++ y ∷ []) xs (length ys) (omega (arith, size))
    ∙ get_or_at ys y [] none (length ys) refl
    ∙ ap (λ t. f t (λ j. get_or ys j none)) (same_Some z x at)
    ∙ local (λ j. get_or ys j none) (λ k. get_or (grown_from none f (ys ++ y ∷ []) xs) k none)
    (λ k lt2. sym (kept none f (ys ++ y ∷ []) xs k (omega (arith, lt2, size))
    ∙ get_or_append_left ys (y ∷ []) none k (omega (arith, lt2))))
grown_at-from {X} {Y} none f ys (z ∷ xs) (suc i) x at local =
    let y = f z (λ j. get_or ys j none) in
    let size = longer ys y in
    let e : length (ys ++ y ∷ []) + i ≡ length ys + suc i = omega (arith, size) in
    ap (λ k. get_or (grown_from none f (ys ++ y ∷ []) xs) k none) (sym e)
    ∙ grown_at-from none f (ys ++ y ∷ []) xs i x at (subst (λ n. AsksBefore f n x) (sym e) local)

-- the equation of a result
pub grown_at : {X Y : Type 0} (none : Y) (f : X → (ℕ → Y) → Y) (xs : List X) (i : ℕ) (x : X) → IsAt xs i x
    → AsksBefore f i x
    → get_or (grown none f xs) i none ≡ f x (λ k. get_or (grown none f xs) k none)
grown_at none f xs i x at local =
    let e : 0 + i ≡ i = omega arith in
    ap (λ k. get_or (grown none f xs) k none) (sym e)
    ∙ grown_at-from none f [] xs i x at (subst (λ n. AsksBefore f n x) (sym e) local)
