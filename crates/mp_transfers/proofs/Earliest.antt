-- The earliest of places that are found one element of a list after another.
use Rattle.std.proofs.Common.{◌≡◌, ◌⊎◌, inl, inr, ℕ, ◌+◌, ◌<◌, ◌≤◌, List, length, Option, Some, None}
use Rattle.std.proofs.Common.{refl, ap, subst, arith}
use Rattle.std.proofs.lemmas.Bool.{cases_lt}
use Rattle.mp_base.specs.declared.refusal.Place.{Place}
use Rattle.mp_base.specs.Entries.{IsAt}
use Rattle.mp_rules.specs.Breaking.{IsEarliest, earlier_of}
use Rattle.mp_rules.proofs.EarliestPlaces.{earliest_through, earliest_same, earliest_either}
use Rattle.mp_base.proofs.Entries.{one_entry, within}

-- what was found is one of the places, and none is before it
pub found_is : (P : Place → Type 0) (found : Option Place) (at : Place) → IsEarliest P found → found ≡ Some at → P at
found_is P found at h e = let Q : Option Place → Type 0 = IsEarliest P in (subst Q e h).0

pub found_covers : (P : Place → Type 0) (found : Option Place) (at : Place) → IsEarliest P found → P at
    → (v : Place) × (found ≡ Some v) × (v.offset ≤ at.offset)
found_covers P None at none there = absurd (none at there)
found_covers P (Some b) at (is_b, least) there = (b, refl, least at there)

-- what was found is the earliest of itself
pub earliest_itself : (found : Option Place) → IsEarliest (λ at. found ≡ Some at) found
earliest_itself None = λ at e. absurd (cc)
earliest_itself (Some b) = (
  refl,
  λ at e. let same : b ≡ at = cc in let o : b.offset ≡ at.offset = ap (λ (p : Place). p.offset) same in
      omega (arith, o),
)

-- what was found, and then something else
pub earliest_then : (P Q : Place → Type 0) (a b : Option Place) → IsEarliest P a
    → IsEarliest (λ at. (a ≡ Some at) ⊎ Q at) b → IsEarliest (λ at. P at ⊎ Q at) b
earliest_then P Q a b p q = earliest_through (λ at. (a ≡ Some at) ⊎ Q at) (λ at. P at ⊎ Q at) b q
    (λ at there. elim there [ inl e ↦ inl (found_is P a at p e) | inr h ↦ inr h ])
    (λ at there. elim there [
      | inl h ↦ (let (v, e, le) = found_covers P a at p h in (v, inl e, le))
      | inr h ↦ (at, inr h, omega arith)
    ])

-- an element of a list before i has this place
abbrev pub Before : {X : Type 0} → List X → (ℕ → X → Place → Type 0) → ℕ → Place → Type 0
Before {X} xs R i at = (k : ℕ) × (x : X) × (k < i) × IsAt xs k x × R k x at

-- what was found is the earliest of some places and of those of the elements before i
pub record Upto {X : Type 0} (P : Place → Type 0) (xs : List X) (R : ℕ → X → Place → Type 0) (i : ℕ)
    (found : Option Place) : Type 0 where
  pub earliest : IsEarliest (λ at. P at ⊎ Before xs R i at) found

pub upto_none : {X : Type 0} (P : Place → Type 0) (xs : List X) (R : ℕ → X → Place → Type 0) (found : Option Place)
    → IsEarliest P found → Upto P xs R 0 found
upto_none P xs R found h =
    record { earliest = earliest_same P (λ at. P at ⊎ Before xs R 0 at) found h (λ at p. inl p) back }
  where
    back : (at : Place) → P at ⊎ Before xs R 0 at → P at
    back at there = elim there [ inl p ↦ p | inr (k, x, lt, is, r) ↦ absurd (omega (arith, lt)) ]

-- one more element
more : {X : Type 0} (P : Place → Type 0) (xs : List X) (R : ℕ → X → Place → Type 0) (i : ℕ) (x : X)
    (found : Option Place) → IsAt xs i x
    → IsEarliest (λ at. (P at ⊎ Before xs R i at) ⊎ R i x at) found → Upto P xs R (i + 1) found
more {X} P xs R i x found is h =
    record {
      earliest = earliest_same (λ at. (P at ⊎ Before xs R i at) ⊎ R i x at)
          (λ at. P at ⊎ Before xs R (i + 1) at) found h fore back;
    }
  where
    fore : (at : Place) → (P at ⊎ Before xs R i at) ⊎ R i x at → P at ⊎ Before xs R (i + 1) at
    fore at there = elim there [
      | inl before ↦ elim before [ inl p ↦ inl p | inr (k, y, lt, is_y, r) ↦ inr (k, y, omega (arith, lt), is_y, r) ]
      | inr r ↦ inr (i, x, omega arith, is, r)
    ]

    last : (at : Place) (k : ℕ) (y : X) → k ≡ i → IsAt xs k y → R k y at → R i x at
    last at k y e is_y r =
        let S : ℕ → Type 0 = λ j. IsAt xs j y × R j y at in
        let s : S i = subst S e (is_y, r) in
        let T : X → Type 0 = λ z. R i z at in
        subst T (one_entry xs i y x s.0 is) s.1

    back : (at : Place) → P at ⊎ Before xs R (i + 1) at → (P at ⊎ Before xs R i at) ⊎ R i x at
    back at there = elim there [
      | inl p ↦ inl (inl p)
      | inr (k, y, lt, is_y, r) ↦ elim (cases_lt k i) [
        | inl l ↦ inl (inr (k, y, l, is_y, r))
        | inr g ↦ inr (last at k y (omega (arith, lt, g)) is_y r)
      ]
    ]

pub upto_join : {X : Type 0} {P : Place → Type 0} {xs : List X} {R : ℕ → X → Place → Type 0} {i : ℕ} {a : Option Place}
    → Upto P xs R i a → (x : X) → IsAt xs i x
    → (b : Option Place) → IsEarliest (R i x) b → Upto P xs R (i + 1) (earlier_of a b)
upto_join {P = P} {xs = xs} {R = R} {i = i} {a = a} u x is b h =
    more P xs R i x (earlier_of a b) is (earliest_either (λ at. P at ⊎ Before xs R i at) (R i x) a b u.earliest h)

pub upto_then : {X : Type 0} {P : Place → Type 0} {xs : List X} {R : ℕ → X → Place → Type 0} {i : ℕ} {a : Option Place}
    → Upto P xs R i a → (x : X) → IsAt xs i x
    → (b : Option Place) → IsEarliest (λ at. (a ≡ Some at) ⊎ R i x at) b → Upto P xs R (i + 1) b
upto_then {P = P} {xs = xs} {R = R} {i = i} {a = a} u x is b h =
    more P xs R i x b is (earliest_then (λ at. P at ⊎ Before xs R i at) (R i x) a b u.earliest h)

-- an element with no place
pub upto_skip : {X : Type 0} {P : Place → Type 0} {xs : List X} {R : ℕ → X → Place → Type 0} {i : ℕ} {a : Option Place}
    → Upto P xs R i a → (x : X) → IsAt xs i x
    → ((at : Place) → R i x at → ⊥) → Upto P xs R (i + 1) a
upto_skip {P = P} {xs = xs} {R = R} {i = i} {a = a} u x is none = upto_join u x is None (λ at r. none at r)

-- an element of a list has this place
abbrev pub InAny : {X : Type 0} → List X → (ℕ → X → Place → Type 0) → Place → Type 0
InAny {X} xs R at = (k : ℕ) × (x : X) × IsAt xs k x × R k x at

pub upto_all : {X : Type 0} {P : Place → Type 0} {xs : List X} {R : ℕ → X → Place → Type 0} {i : ℕ} {a : Option Place}
    → Upto P xs R i a → length xs ≤ i
    → IsEarliest (λ at. P at ⊎ InAny xs R at) a
upto_all {P = P} {xs = xs} {R = R} {i = i} {a = a} u all =
    earliest_same (λ at. P at ⊎ Before xs R i at) (λ at. P at ⊎ InAny xs R at) a u.earliest
    (λ at there. elim there [ inl p ↦ inl p | inr (k, x, lt, is, r) ↦ inr (k, x, is, r) ])
    (λ at there. elim there [
      | inl p ↦ inl p
      | inr (k, x, is, r) ↦ inr (k, x, (let l = within xs k is in omega (arith, l, all)), is, r)
    ])

-- nothing was found before
pub from_none : (Q : Place → Type 0) (found : Option Place) → IsEarliest (λ at. (None ≡ Some at) ⊎ Q at) found
    → IsEarliest Q found
from_none Q found h =
    earliest_same (λ at. (None ≡ Some at) ⊎ Q at) Q found h
    (λ at there. elim there [ inl e ↦ absurd (cc) | inr q ↦ q ]) (λ at q. inr q)
