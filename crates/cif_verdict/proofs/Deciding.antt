-- Decided claims, and members of lists for which a claim holds.
use Rattle.std.proofs.Common.{◌≡◌, inl, inr, ℕ, zero, suc, ◌≤◌, List, [], ◌∷◌, refl, sym, subst, arith}
use Rattle.std.specs.Prelude.{Contains}
use Rattle.std.proofs.lemmas.Bool.{cases_eq}
use Rattle.mp_base.proofs.Decisions.{Decided, same_claim}

-- ---- claims

-- what is known of the one thing of a kind is known of some thing of that kind
pub of_the_one : {X : Type 0} (P R : X → Type 0) → ((x y : X) → P x → P y → x ≡ y) → Decided ((x : X) × P x)
    → ((x : X) → Decided (R x)) → Decided ((x : X) × P x × R x)
of_the_one P R same (inr none) known = inr (λ (x, p, r). none (x, p))
of_the_one P R same (inl (x, p)) known = elim (known x) [
  | inl r ↦ inl (x, p, r)
  | inr not ↦ inr (λ (y, q, r). not (subst R (same y x q p) r))
]

-- ---- numbers and names

-- ---- members of lists

pub some_in : {X : Type 0} (R : X → Type 0) → ((x : X) → Decided (R x)) → (xs : List X)
    → Decided ((x : X) × Contains xs x × R x)
some_in R known [] = inr (λ (x, (k, lt, is), r). omega (arith, lt))
some_in {X} R known (y ∷ ys) = by (known y) (some_in R known ys)
  where
    by : Decided (R y) → Decided ((x : X) × Contains ys x × R x) → Decided ((x : X) × Contains (y ∷ ys) x × R x)
    by (inl r) rest = inl (y, (0, omega arith, refl), r)
    by (inr none) (inl (x, (k, lt, is), r)) = inl (x, (suc k, omega (arith, lt), is), r)
    by (inr none) (inr nor) = inr neither
      where
        neither : (x : X) × Contains (y ∷ ys) x × R x → ⊥
        neither (x, (zero, lt, is), r) = none (subst R (sym is) r)
        neither (x, (suc k, lt, is), r) = nor (x, (k, omega (arith, lt), is), r)

-- some number up to this one
pub some_upto : (P : ℕ → Type 0) → ((k : ℕ) → Decided (P k)) → (n : ℕ) → Decided ((k : ℕ) × (k ≤ n) × P k)
some_upto P known zero = same_claim (known 0) (λ p. (0, omega arith, p))
    (λ (k, le, p). let e : k ≡ 0 = omega (arith, le) in subst P e p)
some_upto P known (suc n) = elim (known (suc n)) [
  | inl p ↦ inl (suc n, omega arith, p)
  | inr none ↦ same_claim (some_upto P known n) (λ (k, le, p). (k, omega (arith, le), p))
      (λ (k, le, p). (k, below k le p none, p))
]
  where
    below : (k : ℕ) → k ≤ suc n → P k → (P (suc n) → ⊥) → k ≤ n
    below k le p none = elim (cases_eq k (suc n)) [
      | inl e ↦ absurd (none (subst P e p))
      | inr other ↦ omega (arith, le, other)
    ]
