-- The earliest of the places that are found in lists.
use Rattle.std.proofs.Common.{◌≡◌, ◌⊎◌, inl, inr, ℕ, zero, suc, List, [], ◌∷◌, refl, sym, ◌∙◌, ap, Bool, true}
use Rattle.std.proofs.Common.{false, cond, Option, Some, None}
use Rattle.std.proofs.lemmas.Option.{none-some, same_Some}
use Rattle.std.specs.List.{filter_map, fold, cons_option}
use Rattle.mp_base.specs.declared.refusal.Place.{Place}
use Rattle.mp_base.specs.Entries.{IsAt}
use Rattle.mp_rules.specs.Breaking.{IsEarliest, earlier}
use Rattle.mp_rules.proofs.EarliestPlaces.{earliest_same, earliest_either, earliest_at}
use Rattle.mp_limits.specs.Finding.{earliest_in, place_that}

-- a place that is found in an element of a list
abbrev pub IsFoundIn : {X : Type 0} → (X → Option Place) → List X → Place → Type 0
IsFoundIn {X} find xs at = (k : ℕ) × (x : X) × IsAt xs k x × (find x ≡ Some at)

first_or_later : {X : Type 0} (find : X → Option Place) (x : X) (xs : List X) (at : Place) → IsFoundIn find (x ∷ xs) at
    → (find x ≡ Some at) ⊎ IsFoundIn find xs at
first_or_later find x xs at (zero, y, is, f) = inl (ap find (same_Some x y is) ∙ f)
first_or_later find x xs at (suc k, y, is, f) = inr (k, y, is, f)

later : {X : Type 0} (find : X → Option Place) (x : X) (xs : List X) (at : Place) → IsFoundIn find xs at
    → IsFoundIn find (x ∷ xs) at
later find x xs at (k, y, is, f) = (suc k, y, is, f)

-- the earliest of what was found and of what is found in a list
pub earliest_from : {X : Type 0} (find : X → Option Place) (xs : List X) (P : Place → Type 0) (found : Option Place)
    → IsEarliest P found
    → IsEarliest (λ at. P at ⊎ IsFoundIn find xs at) (earliest_in find found xs)
earliest_from find [] P found h =
    earliest_same P (λ at. P at ⊎ IsFoundIn find [] at) found h
    (λ at p. inl p) (λ at q. elim q [ inl p ↦ p | inr (k, x, is, f) ↦ absurd (none-some x is) ])
earliest_from find (x ∷ xs) P found h = by_first (earliest_from find xs) (find x) refl
  where
    by_first : ((Q : Place → Type 0) (o : Option Place) → IsEarliest Q o
        → IsEarliest (λ at. Q at ⊎ IsFoundIn find xs at) (earliest_in find o xs)) → (o : Option Place) → find x ≡ o
        → IsEarliest (λ at. P at ⊎ IsFoundIn find (x ∷ xs) at) (fold earlier found (cons_option o (filter_map find xs)))
    by_first rest None e =
        earliest_same (λ at. P at ⊎ IsFoundIn find xs at) (λ at. P at ⊎ IsFoundIn find (x ∷ xs) at)
        (earliest_in find found xs)
        (rest P found h)
        (λ at q. elim q [ inl p ↦ inl p | inr f ↦ inr (later find x xs at f) ])
        (λ at q. elim q [
          | inl p ↦ inl p
          | inr f ↦ elim (first_or_later find x xs at f) [
            | inl now ↦ let same : None ≡ Some at = sym e ∙ now in absurd (cc)
            | inr next ↦ inr next
          ]
        ])
    by_first rest (Some y) e =
        earliest_same (λ at. (P at ⊎ (at ≡ y)) ⊎ IsFoundIn find xs at) (λ at. P at ⊎ IsFoundIn find (x ∷ xs) at)
        (earliest_in find (earlier found y) xs)
        (rest (λ at. P at ⊎ (at ≡ y)) (earlier found y)
        (earliest_either P (λ at. at ≡ y) found (Some y) h (earliest_at y)))
        (λ at q. elim q [
          | inl before ↦ elim before [ inl p ↦ inl p | inr s ↦ inr (0, x, refl, e ∙ ap Some (sym s)) ]
          | inr f ↦ inr (later find x xs at f)
        ])
        (λ at q. elim q [
          | inl p ↦ inl (inl p)
          | inr f ↦ elim (first_or_later find x xs at f) [
            | inl now ↦ let same : Some y ≡ Some at = sym e ∙ now in inl (inr (let t : y ≡ at = cc in sym t))
            | inr next ↦ inr next
          ]
        ])

-- the earliest of what is found in one list
pub earliest_one : {X : Type 0} (find : X → Option Place) (xs : List X)
    → IsEarliest (IsFoundIn find xs) (earliest_in find None xs)
earliest_one find xs = earliest_same (λ at. ⊥ ⊎ IsFoundIn find xs at) (IsFoundIn find xs) (earliest_in find None xs)
    (earliest_from find xs (λ at. ⊥) None (λ at none. none)) (λ at q. elim q [ inl none ↦ absurd none | inr f ↦ f ])
    (λ at f. inr f)

-- the earliest of what is found in two lists
pub earliest_two : {X Y : Type 0} (f : X → Option Place) (g : Y → Option Place) (xs : List X) (ys : List Y)
    → IsEarliest (λ at. IsFoundIn f xs at ⊎ IsFoundIn g ys at) (earliest_in g (earliest_in f None xs) ys)
earliest_two f g xs ys = earliest_from g ys (IsFoundIn f xs) (earliest_in f None xs) (earliest_one f xs)

-- what is found by a test
pub passes : {X : Type 0} (place : X → Place) (test : X → Bool) (x : X) (at : Place)
    → place_that place test x ≡ Some at → (test x ≡ true) × (at ≡ place x)
passes place test x at h = by_test (test x) h
  where
    by_test : (b : Bool) → cond b (Some (place x)) None ≡ Some at → (b ≡ true) × (at ≡ place x)
    by_test true h = (refl, (let s : place x ≡ at = cc in sym s))
    by_test false h = absurd (cc)

pub passed : {X : Type 0} (place : X → Place) (test : X → Bool) (x : X) (at : Place) → test x ≡ true → at ≡ place x
    → place_that place test x ≡ Some at
passed place test x at h e = rw h (ap Some (sym e))
