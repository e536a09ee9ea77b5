-- Lists in which no number stands twice.
use Rattle.std.proofs.Common.{◌≡◌, ◌⊎◌, inl, inr, ℕ, zero, suc, ◌+◌, ◌<◌, ◌≤◌, Bool, true, false, not, cond, List, []}
use Rattle.std.proofs.Common.{◌∷◌, ◌++◌, refl, sym, ◌∙◌, ap, subst, length, map, arith, drop, slice_index, ◌||◌}
use Rattle.std.proofs.Common.{◌==◌}
use Rattle.std.specs.List.{filter, flat_map, list_any, range_with_len}
use Rattle.std.proofs.lemmas.Bool.{and_from, eqb-true}
use Rattle.mp_program.specs.Tree.{is_distinct}

-- a number stands in a list
abbrev pub Among : ℕ → List ℕ → Type 0
Among z [] = ⊥
Among z (x ∷ xs) = (z ≡ x) ⊎ Among z xs

abbrev pub Distinct : List ℕ → Type 0
Distinct [] = Unit {0}
Distinct (x ∷ xs) = (Among x xs → ⊥) × Distinct xs

pub among_append : (z : ℕ) (xs ys : List ℕ) → Among z (xs ++ ys) → Among z xs ⊎ Among z ys
among_append z [] ys h = inr h
among_append z (x ∷ xs) ys (inl e) = inl (inl e)
among_append z (x ∷ xs) ys (inr h) = elim (among_append z xs ys h) [ inl a ↦ inl (inr a) | inr b ↦ inr b ]

pub distinct_append : (xs ys : List ℕ) → Distinct xs → Distinct ys → ((z : ℕ) → Among z xs → Among z ys → ⊥)
    → Distinct (xs ++ ys)
distinct_append [] ys d e apart = e
distinct_append (x ∷ xs) ys d e apart = (first, distinct_append xs ys d.1 e (λ z a b. apart z (inr a) b))
  where
    first : Among x (xs ++ ys) → ⊥
    first a = elim (among_append x xs ys a) [ inl here ↦ d.0 here | inr there ↦ apart x (inl refl) there ]

pub among_flat : (g : ℕ → List ℕ) (z : ℕ) (xs : List ℕ) → Among z (flat_map g xs) → (x : ℕ) × Among x xs × Among z (g x)
among_flat g z [] h = absurd h
among_flat g z (x ∷ xs) h = elim (among_append z (g x) (flat_map g xs) h) [
  | inl here ↦ (x, inl refl, here)
  | inr there ↦ let (y, a, b) = among_flat g z xs there in (y, inr a, b)
]

-- lists that differ for different numbers
pub distinct_flat : (g : ℕ → List ℕ) (xs : List ℕ) → Distinct xs → ((x : ℕ) → Among x xs → Distinct (g x))
    → ((x y z : ℕ) → Among x xs → Among y xs → Among z (g x) → Among z (g y) → x ≡ y) → Distinct (flat_map g xs)
distinct_flat g [] d each own = tt
distinct_flat g (x ∷ xs) d each own =
    distinct_append (g x) (flat_map g xs) (each x (inl refl))
    (distinct_flat g xs d.1 (λ y a. each y (inr a)) (λ y w z a b. own y w z (inr a) (inr b))) apart
  where
    apart : (z : ℕ) → Among z (g x) → Among z (flat_map g xs) → ⊥
    apart z here there =
        let (y, a, b) = among_flat g z xs there in
        d.0 (subst (λ w. Among w xs) (sym (own x y z (inl refl) (inr a) here b)) a)

pub among_map : (h : ℕ → ℕ) (z : ℕ) (xs : List ℕ) → Among z (map h xs) → (x : ℕ) × Among x xs × (z ≡ h x)
among_map h z [] a = absurd a
among_map h z (x ∷ xs) (inl e) = (x, inl refl, e)
among_map h z (x ∷ xs) (inr a) = let (y, b, e) = among_map h z xs a in (y, inr b, e)

pub distinct_map : (h : ℕ → ℕ) (xs : List ℕ) → Distinct xs → ((x y : ℕ) → Among x xs → Among y xs → h x ≡ h y → x ≡ y)
    → Distinct (map h xs)
distinct_map h [] d one = tt
distinct_map h (x ∷ xs) d one = (first, distinct_map h xs d.1 (λ y z a b. one y z (inr a) (inr b)))
  where
    first : Among (h x) (map h xs) → ⊥
    first a =
        let (y, b, e) = among_map h (h x) xs a in d.0 (subst (λ w. Among w xs) (sym (one x y (inl refl) (inr b) e)) b)

pub among_filter : (p : ℕ → Bool) (z : ℕ) (xs : List ℕ) → Among z (filter p xs) → Among z xs × (p z ≡ true)
among_filter p z [] a = absurd a
among_filter p z (x ∷ xs) a = by_test (p x) refl (among_filter p z xs) a
  where
    by_test : (b : Bool) → p x ≡ b → (Among z (filter p xs) → Among z xs × (p z ≡ true))
        → Among z (cond b (x ∷ filter p xs) (filter p xs))
        → Among z (x ∷ xs) × (p z ≡ true)
    by_test true is more (inl e) = (inl e, ap p e ∙ is)
    by_test true is more (inr h) = let (there, passes) = more h in (inr there, passes)
    by_test false is more h = let (there, passes) = more h in (inr there, passes)

pub distinct_filter : (p : ℕ → Bool) (xs : List ℕ) → Distinct xs → Distinct (filter p xs)
distinct_filter p [] d = tt
distinct_filter p (x ∷ xs) d = by_test (p x) (distinct_filter p xs d.1)
  where
    by_test : (b : Bool) → Distinct (filter p xs) → Distinct (cond b (x ∷ filter p xs) (filter p xs))
    by_test true rest = (λ a. d.0 (among_filter p x xs a).0, rest)
    by_test false rest = rest

-- where a number stands
pub among_at : (z : ℕ) (xs : List ℕ) → Among z xs → (j : ℕ) × (j < length xs) × (z ≡ slice_index xs j)
among_at z [] a = absurd a
among_at z (x ∷ xs) (inl e) = (0, omega arith, e)
among_at z (x ∷ xs) (inr a) = let (j, lt, e) = among_at z xs a in (suc j, omega (arith, lt), e)

pub distinct_items : (xs : List ℕ)
    → ((i j : ℕ) → i < length xs → j < length xs → slice_index xs i ≡ slice_index xs j → i ≡ j) → Distinct xs
distinct_items [] once = tt
distinct_items (x ∷ xs) once = (
  first,
  distinct_items xs
      (λ i j il jl e. omega (arith, once (suc i) (suc j) (omega (arith, il)) (omega (arith, jl)) e)),
)
  where
    first : Among x xs → ⊥
    first a =
        let (j, lt, e) = among_at x xs a in
        let same : 0 ≡ suc j = once 0 (suc j) (omega arith) (omega (arith, lt)) e in
        omega (arith, same)

pub among_drop : (from z : ℕ) (xs : List ℕ) → Among z (drop from xs)
    → (j : ℕ) × (from ≤ j) × (j < length xs) × (z ≡ slice_index xs j)
among_drop zero z xs a = let (j, lt, e) = among_at z xs a in (j, omega arith, lt, e)
among_drop (suc from) z [] a = absurd a
among_drop (suc from) z (x ∷ xs) a =
    let (j, le, lt, e) = among_drop from z xs a in (suc j, omega (arith, le), omega (arith, lt), e)

pub distinct_drop : (from : ℕ) (xs : List ℕ) → Distinct xs → Distinct (drop from xs)
distinct_drop zero xs d = d
distinct_drop (suc from) [] d = tt
distinct_drop (suc from) (x ∷ xs) d = distinct_drop from xs d.1

pub among_range : (a n z : ℕ) → Among z (range_with_len a n) → (a ≤ z) × (z < a + n)
among_range a zero z h = absurd h
among_range a (suc n) z (inl e) = (omega (arith, e), omega (arith, e))
among_range a (suc n) z (inr h) =
    let (low, high) = among_range (a + 1) n z h in (omega (arith, low), omega (arith, high))

pub distinct_range : (a n : ℕ) → Distinct (range_with_len a n)
distinct_range a zero = tt
distinct_range a (suc n) = (first, distinct_range (a + 1) n)
  where
    first : Among a (range_with_len (a + 1) n) → ⊥
    first h = let (low, high) = among_range (a + 1) n a h in omega (arith, low)

-- the test that computes it
passes_none : (x : ℕ) (ys : List ℕ) → (Among x ys → ⊥) → list_any (λ y. y == x) ys ≡ false
passes_none x [] h = refl
passes_none x (y ∷ ys) h = by_test (y == x) refl (passes_none x ys (λ a. h (inr a)))
  where
    by_test : (b : Bool) → (y == x) ≡ b → list_any (λ z. z == x) ys ≡ false → (b || list_any (λ z. z == x) ys) ≡ false
    by_test true is rest = absurd (h (inl (sym (eqb-true y x is))))
    by_test false is rest = rest

pub passes_distinct : (xs : List ℕ) → Distinct xs → is_distinct xs ≡ true
passes_distinct [] d = refl
passes_distinct (x ∷ xs) d =
    and_from (not (list_any (λ y. y == x) xs)) (is_distinct xs) (ap not (passes_none x xs d.0)) (passes_distinct xs d.1)
