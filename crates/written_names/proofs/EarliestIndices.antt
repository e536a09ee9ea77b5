-- The earliest of places that are found at indices, once one more index is looked at.
use Rattle.std.proofs.Common.{◌≡◌, ◌⊎◌, inl, inr, ℕ, ◌<◌, ◌+◌, Option, None, arith, subst}
use Rattle.mp_base.specs.declared.refusal.Place.{Place}
use Rattle.mp_rules.specs.Breaking.{IsEarliest, earlier_of}
use Rattle.mp_rules.proofs.EarliestPlaces.{earliest_same, earliest_either}

-- a place that is found at one of the first n indices
abbrev pub AtFirst : (ℕ → Place → Type 0) → ℕ → Place → Type 0
AtFirst Q n at = (e : ℕ) × (e < n) × Q e at

pub earliest_of_none : (Q : ℕ → Place → Type 0) → IsEarliest (AtFirst Q 0) None
earliest_of_none Q = λ at (e, lt, q). omega (arith, lt)

up_to : (e n : ℕ) → e < n + 1 → (e < n) ⊎ (e ≡ n)
up_to e n lt = grind (arith, lt)

pub earliest_more : (Q : ℕ → Place → Type 0) (n : ℕ) (found next : Option Place) → IsEarliest (AtFirst Q n) found
    → IsEarliest (Q n) next → IsEarliest (AtFirst Q (n + 1)) (earlier_of found next)
earliest_more Q n found next before here =
    earliest_same (λ at. AtFirst Q n at ⊎ Q n at) (AtFirst Q (n + 1)) (earlier_of found next)
    (earliest_either (AtFirst Q n) (Q n) found next before here)
    (λ at h. elim h [ inl (e, lt, q) ↦ (e, omega (arith, lt), q) | inr q ↦ (n, omega arith, q) ])
    (λ at (e, lt, q). elim (up_to e n lt) [
      | inl less ↦ inl (e, less, q)
      | inr same ↦ inr (subst (λ k. Q k at) same q)
    ])

pub earliest_of_all : (Q : ℕ → Place → Type 0) (n : ℕ) (found : Option Place) → ((e : ℕ) (at : Place) → Q e at → e < n)
    → IsEarliest (AtFirst Q n) found → IsEarliest (λ at. (e : ℕ) × Q e at) found
earliest_of_all Q n found within are =
    earliest_same (AtFirst Q n) (λ at. (e : ℕ) × Q e at) found are
    (λ at (e, lt, q). (e, q)) (λ at (e, q). (e, within e at q, q))
