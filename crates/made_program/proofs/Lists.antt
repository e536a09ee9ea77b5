-- Tests of the entries of lists.
use Rattle.std.proofs.Common.{◌≡◌, ℕ, zero, suc, ◌<◌, List, [], ◌∷◌, Bool, true, false, refl, sym, ◌∙◌, ap, subst, inl}
use Rattle.std.proofs.Common.{inr, arith}
use Rattle.std.specs.Prelude.{not, ◌&&◌, ◌||◌}
use Rattle.std.specs.List.{list_all, list_any}
use Rattle.std.proofs.lemmas.Bool.{and_parts, cases_Bool, not-true}
use Rattle.std.proofs.lemmas.Option.{none-some, same_Some}
use Rattle.mp_program.specs.Names.{is_same}
use Rattle.mp_program.proofs.Definitions.{same_is}
use Rattle.mp_base.specs.Entries.{IsAt}

-- what each entry passes
pub passes : {X : Type 0} (test : X → Bool) (xs : List X) (k : ℕ) (x : X) → list_all test xs ≡ true → IsAt xs k x
    → test x ≡ true
passes test [] k x all at = absurd (none-some x at)
passes test (y ∷ xs) zero x all at = ap test (sym (same_Some y x at)) ∙ (and_parts (test y) (list_all test xs) all).0
passes test (y ∷ xs) (suc k) x all at = passes test xs k x (and_parts (test y) (list_all test xs) all).1 at

-- what each entry passes, by another list
pub passes_in : {X : Type 0} (test : X → Bool) (xs ys : List X) (k : ℕ) (x : X) → xs ≡ ys → list_all test ys ≡ true
    → IsAt xs k x → test x ≡ true
passes_in test xs ys k x same all at = passes test ys k x all (subst (λ zs. IsAt zs k x) same at)

-- a name among others passes what they all pass
pub name_passes : (test : List ℕ → Bool) (names : List (List ℕ)) (x : List ℕ) → list_all test names ≡ true
    → list_any (is_same x) names ≡ true → test x ≡ true
name_passes test [] x all any = absurd (cc)
name_passes test (n ∷ names) x all any = elim (cases_Bool (is_same x n)) [
  | inl same ↦ ap test (same_is x n same) ∙ (and_parts (test n) (list_all test names) all).0
  | inr other ↦ name_passes test names x (and_parts (test n) (list_all test names) all).1
      (ap (λ b. b || list_any (is_same x) names) (sym other) ∙ any)
]

-- something passes where any does
pub one_passes : {X : Type 0} (test : X → Bool) (xs : List X) → list_any test xs ≡ true
    → (k : ℕ) × (x : X) × IsAt xs k x × (test x ≡ true)
one_passes test [] any = absurd (cc)
one_passes test (y ∷ xs) any = elim (cases_Bool (test y)) [
  | inl holds ↦ (0, y, refl, holds)
  | inr no_test ↦ let r = one_passes test xs (ap (λ b. b || list_any test xs) (sym no_test) ∙ any) in
      (suc r.0, r.1, r.2, r.3)
]

-- no entry is the same as a later one, by a test
abbrev pub all_apart : {X : Type 0} → (X → X → Bool) → List X → Bool
all_apart same [] = true
all_apart same (x ∷ xs) = list_all (λ y. not (same x y)) xs && all_apart same xs

pub apart : {X : Type 0} (same : X → X → Bool) (xs : List X) (j k : ℕ) (a b : X) → all_apart same xs ≡ true → j < k
    → IsAt xs j a → IsAt xs k b → same a b ≡ false
apart same [] j k a b all less at_j at_k = absurd (none-some b at_k)
apart same (x ∷ xs) j zero a b all less at_j at_k = absurd (omega arith)
apart same (x ∷ xs) zero (suc k) a b all less at_j at_k =
    let p = and_parts (list_all (λ y. not (same x y)) xs) (all_apart same xs) all in
    ap (λ z. same z b) (sym (same_Some x a at_j))
    ∙ not-true (same x b) (passes (λ y. not (same x y)) xs k b p.0 at_k)
apart same (x ∷ xs) (suc j) (suc k) a b all less at_j at_k =
    let p = and_parts (list_all (λ y. not (same x y)) xs) (all_apart same xs) all in
    apart same xs j k a b p.1 (omega (arith, less)) at_j at_k

pub clash : {T : Type 0} (b : Bool) → b ≡ true → b ≡ false → T
clash b holds fails = absurd (cc)
