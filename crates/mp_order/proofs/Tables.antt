-- Numbers in a list that are lifted, one loop after another.
use Rattle.std.proofs.Common.{◌≡◌, ◌⊎◌, inl, inr, ℕ, ◌+◌, ◌<◌, ◌≤◌, List, refl, sym, ◌∙◌, subst, length, arith, get_or}
use Rattle.std.specs.Prelude.{Contains}
use Rattle.std.proofs.lemmas.Grind.{get_or_default_zero}
use Rattle.std.proofs.lemmas.Bool.{cases_lt}
use Rattle.mp_order.specs.Tables.{Lifted}

-- x stands in a list before index n
abbrev pub Among : ℕ → List ℕ → ℕ → Type 0
Among n xs x = (j : ℕ) × (j < n) × (j < length xs) × (get_or xs j 0 ≡ x)

pub among_all : (xs : List ℕ) (x : ℕ) → Contains xs x → Among (length xs) xs x
among_all xs x (k, lt, e) = (k, lt, lt, sym (get_or_default_zero xs k x lt) ∙ e)

pub contains : (n : ℕ) (xs : List ℕ) (x : ℕ) → Among n xs x → Contains xs x
contains n xs x (k, less, lt, e) = (k, lt, get_or_default_zero xs k x lt ∙ e)

pub among_more : (n : ℕ) (xs : List ℕ) (x : ℕ) → Among n xs x → Among (n + 1) xs x
among_more n xs x (k, less, lt, e) = (k, omega (arith, less), lt, e)

pub among_cases : (n : ℕ) (xs : List ℕ) (x : ℕ) → Among (n + 1) xs x → Among n xs x ⊎ (x ≡ get_or xs n 0)
among_cases n xs x (k, less, lt, e) = elim (cases_lt k n) [
  | inl below ↦ inl (k, below, lt, e)
  | inr above ↦
      inr (let same : k ≡ n = omega (arith, less, above) in let P : ℕ → Type 0 = λ j. x ≡ get_or xs j 0 in
      subst P same (sym e))
]

pub lifted_none : (G : ℕ → ℕ → Type 0) (xs : List ℕ) → ((i k : ℕ) → i < length xs → G i k → k ≤ get_or xs i 0)
    → Lifted G xs xs
lifted_none G xs none = record { size = refl; met = λ i. inl refl; grown = λ i. omega arith; bound = none }

pub lifted_as : (G H : ℕ → ℕ → Type 0) (old new : List ℕ) → Lifted G old new → ((i k : ℕ) → G i k → H i k)
    → ((i k : ℕ) → H i k → G i k) → Lifted H old new
lifted_as G H old new l to from = record {
  size = l.size;
  met = λ i. elim (l.met i) [ inl same ↦ inl same | inr g ↦ inr (to i (get_or new i 0) g) ];
  grown = l.grown;
  bound = λ i k lt h. l.bound i k lt (from i k h);
}

pub lifted_join : (G H K : ℕ → ℕ → Type 0) (old mid new : List ℕ) → Lifted G old mid → Lifted H mid new
    → ((i k : ℕ) → G i k → K i k) → ((i k : ℕ) → H i k → K i k)
    → ((i k : ℕ) → K i k → G i k ⊎ ((l : ℕ) × (k ≤ l) × H i l)) → Lifted K old new
lifted_join G H K old mid new first second left right apart = record {
  size = second.size ∙ first.size;
  met = λ i. elim (second.met i) [ inl same ↦ before i same (first.met i) | inr h ↦ inr (right i (get_or new i 0) h) ];
  grown = λ i. omega (arith, first.grown i, second.grown i);
  bound = λ i k lt g. elim (apart i k g) [
    | inl g ↦ omega (arith, first.bound i k lt g, second.grown i)
    | inr (l, le, h) ↦ omega (arith, le, second.bound i l (omega (arith, lt, first.size)) h)
  ];
}
  where
    before : (i : ℕ) → get_or new i 0 ≡ get_or mid i 0 → (get_or mid i 0 ≡ get_or old i 0) ⊎ G i (get_or mid i 0)
        → (get_or new i 0 ≡ get_or old i 0) ⊎ K i (get_or new i 0)
    before i same (inl was) = inl (same ∙ was)
    before i same (inr g) = let P : ℕ → Type 0 = λ k. K i k in inr (subst P (sym same) (left i (get_or mid i 0) g))
