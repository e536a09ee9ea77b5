-- A table's entries meet its equation.
use Rattle.std.proofs.Common.{◌≡◌, ℕ, zero, suc, ◌+◌, ◌-◌, ◌<◌, List, [], ◌∷◌, sym, ◌∙◌, ap, length, arith, get_or}
use Rattle.mp_base.specs.Table.{table}

-- f asks only for entries behind index i
abbrev pub AsksBehind : {X Y : Type 0} → (X → (ℕ → Y) → Y) → ℕ → X → Type 0
AsksBehind {X} {Y} f i x = (g h : ℕ → Y) → ((k : ℕ) → i < k → g k ≡ h k) → f x g ≡ f x h

-- an entry behind the first is that of the rest
behind : {Y : Type 0} (none y : Y) (ys : List Y) (at k : ℕ) → at < k
    → get_or ys (k - suc at) none ≡ get_or (y ∷ ys) (k - at) none
behind none y ys at k h =
    let e : k - at ≡ suc (k - suc at) = omega arith in
    ap (λ j. get_or (y ∷ ys) j none) (sym e)

pub table_at-from : {X Y : Type 0} (none : Y) (f : X → (ℕ → Y) → Y) (at : ℕ) (xs : List X) (i : ℕ) (x : X)
    → i < length xs → x ≡ get_or xs i x
    → AsksBehind f (at + i) x
    → get_or (table none f at xs) i none ≡ f x (λ k. get_or (table none f at xs) (k - at) none)
table_at-from none f at [] i x h is local = absurd (omega (arith, h))
table_at-from none f at (y ∷ ys) zero x h is local =
    ap (λ z. f z (λ k. get_or (table none f (suc at) ys) (k - suc at) none)) (sym is)
    ∙ local (λ k. get_or (table none f (suc at) ys) (k - suc at) none)
    (λ k. get_or (table none f at (y ∷ ys)) (k - at) none)
    (λ k lt. behind none _ (table none f (suc at) ys) at k (omega (arith, lt)))
table_at-from none f at (y ∷ ys) (suc i) x h is local =
    table_at-from none f (suc at) ys i x (omega (arith, h)) is
    (λ g g' same. local g g' (λ k lt. same k (omega (arith, lt))))
    ∙ local (λ k. get_or (table none f (suc at) ys) (k - suc at) none)
    (λ k. get_or (table none f at (y ∷ ys)) (k - at) none)
    (λ k lt. behind none _ (table none f (suc at) ys) at k (omega (arith, lt)))

-- the equation of an entry
pub table_at : {X Y : Type 0} (none : Y) (f : X → (ℕ → Y) → Y) (xs : List X) (i : ℕ) (x : X) → i < length xs
    → x ≡ get_or xs i x
    → AsksBehind f i x → get_or (table none f 0 xs) i none ≡ f x (λ k. get_or (table none f 0 xs) k none)
table_at none f xs i x h is local =
    table_at-from none f 0 xs i x h is (λ g g' same. local g g' (λ k lt. same k (omega (arith, lt))))
    ∙ local (λ k. get_or (table none f 0 xs) (k - 0) none) (λ k. get_or (table none f 0 xs) k none)
    (λ k lt. let e : k - 0 ≡ k = omega arith in ap (λ j. get_or (table none f 0 xs) j none) e)
