-- Claims that hold or do not: what can be decided, for all crates above.
use Rattle.std.proofs.Common.{[], ◌⊎◌, inl, inr, Bool, ◌≡◌, true, refl, false, ℕ, ◌<◌, arith, ◌≤◌, List}
use Rattle.std.proofs.Common.{◌∷◌, zero, suc, subst}
use Rattle.std.proofs.lemmas.Bool.{cases_eq, cases_lt}
use Rattle.std.specs.Str.{bytes_eq}
use Rattle.std.proofs.lemmas.Slice.Eq.{bytes_eq-Decides}
use Rattle.std.specs.Prelude.{All, ℤ, ◌<ℤ◌, ◌≤ℤ◌}
use Rattle.std.proofs.lemmas.List.Elements.{All-nil, All-cons, All-head, All-tail}
use Rattle.std.specs.Ordering.{int_eq}
use Rattle.std.proofs.lemmas.Bool.Decides.{Decides-int_eq}
use Rattle.std.proofs.lemmas.Int.{by_lt_z, ints}

abbrev pub Decided : Type 0 → Type 0
Decided A = A ⊎ (A → ⊥)

pub same_claim : {A B : Type 0} → Decided A → (A → B) → (B → A) → Decided B
same_claim (inl a) f g = inl (f a)
same_claim (inr none) f g = inr (λ b. none (g b))

pub both_of : {A B : Type 0} → Decided A → Decided B → Decided (A × B)
both_of (inl a) (inl b) = inl (a, b)
both_of (inl a) (inr none) = inr (λ (x, y). none y)
both_of (inr none) other = inr (λ (x, y). none x)

pub one_of : {A B : Type 0} → Decided A → Decided B → Decided (A ⊎ B)
one_of (inl a) other = inl (inl a)
one_of (inr none) (inl b) = inl (inr b)
one_of (inr none) (inr nor) = inr (λ h. elim h [ inl a ↦ none a | inr b ↦ nor b ])

pub not_so : {A : Type 0} → Decided A → Decided (A → ⊥)
not_so (inl a) = inr (λ none. none a)
not_so (inr none) = inl none

pub is_true : (b : Bool) → Decided (b ≡ true)
is_true true = inl refl
is_true false = inr (λ e. absurd (cc))

pub is_false : (b : Bool) → Decided (b ≡ false)
is_false true = inr (λ e. absurd (cc))
is_false false = inl refl

pub is_number : (m n : ℕ) → Decided (m ≡ n)
is_number m n = elim (cases_eq m n) [ inl same ↦ inl same | inr other ↦ inr other ]

pub decided_below : (m n : ℕ) → Decided (m < n)
decided_below m n = elim (cases_lt m n) [ inl lt ↦ inl lt | inr ge ↦ inr (λ lt. omega (arith, lt, ge)) ]

pub is_within : (m n : ℕ) → Decided (m ≤ n)
is_within m n = elim (cases_lt n m) [ inl lt ↦ inr (λ le. omega (arith, lt, le)) | inr ge ↦ inl ge ]

pub is_name : (x y : List ℕ) → Decided (x ≡ y)
is_name x y = same_claim (is_true (bytes_eq x y)) (bytes_eq-Decides x y).0 (bytes_eq-Decides x y).1

pub holds_of_all : {X : Type 0} (P : X → Type 0) → ((x : X) → Decided (P x)) → (xs : List X) → Decided (All P xs)
holds_of_all P known [] = inl (All-nil P)
holds_of_all P known (x ∷ xs) = same_claim (both_of (known x) (holds_of_all P known xs))
    (λ (p, ps). All-cons P x xs p ps) (λ all. (All-head P x xs all, All-tail P x xs all))

-- some number below n has a property
pub some_below : (P : ℕ → Type 0) → ((i : ℕ) → Decided (P i)) → (n : ℕ) → Decided ((i : ℕ) × (i < n) × P i)
some_below P known zero = inr (λ (i, lt, h). omega (arith, lt))
some_below P known (suc n) = by (known n) (some_below P known n)
  where
    by : Decided (P n) → Decided ((i : ℕ) × (i < n) × P i) → Decided ((i : ℕ) × (i < suc n) × P i)
    by (inl h) rest = inl (n, omega arith, h)
    by (inr none) (inl (i, lt, h)) = inl (i, omega (arith, lt), h)
    by (inr none) (inr nor) = inr (λ (i, lt, h). elim (cases_lt i n) [
      | inl less ↦ nor (i, less, h)
      | inr ge ↦ (let same : i ≡ n = omega (arith, lt, ge) in none (subst P same h))
    ])

pub is_integer : (y z : ℤ) → Decided (y ≡ z)
is_integer y z = same_claim (is_true (int_eq y z)) (Decides-int_eq y z).0 (Decides-int_eq y z).1

pub is_less : (y z : ℤ) → Decided (y <ℤ z)
is_less y z = by_lt_z y z (λ lt. inl lt) (λ ge. inr (λ lt. absurd (omega (arith, ints))))

pub is_at_most : (y z : ℤ) → Decided (y ≤ℤ z)
is_at_most y z = by_lt_z z y (λ lt. inr (λ le. absurd (omega (arith, ints)))) (λ le. inl le)

-- this holds of one value at most
abbrev pub IsDetermined : {X : Type 0} → (X → Type 0) → Type 0
IsDetermined {X} P = (a b : X) → P a → P b → a ≡ b
