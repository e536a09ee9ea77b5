-- Rules that are kept, one after another.
use Rattle.std.proofs.Common.{◌≡◌, inl, inr, ℕ, ◌+◌, ◌<◌, ◌≤◌, refl, sym, ap, subst, arith, Option, Some, None}
use Rattle.std.proofs.Common.{MatchOption}
use Rattle.std.proofs.lemmas.Bool.{cases_order}
use Rattle.mp_base.specs.declared.limits.TheConstants.{WEIGHT_LIMIT}
use Rattle.mp_base.specs.declared.refusal.Place.{Place}
use Rattle.mp_base.specs.declared.refusal.Family.TheVariants.{E}
use Rattle.mp_base.specs.declared.refusal.Spot.TheVariants.{At}
use Rattle.mp_base.specs.declared.refusal.Refusal.{Refusal}
use Rattle.mp_base.specs.declared.refusal.Refusal.TheVariants.{Broken}
use Rattle.mp_written.specs.declared.program.Program.{Program}
use Rattle.mp_written.specs.Weight.{weight}
use Rattle.mp_rules.specs.Breaking.{IsEarliest}
use Rattle.written_rules.specs.Breaking.{Breaks, IsFirst, IsUnbroken, RefusesFirst}
use Rattle.written_rules.specs.Rules.{E20, E22}
use Rattle.written_checker.specs.Kept.{KeepsBelow}
use Rattle.written_checker.proofs.Ruled.{told, rule_44}

pub keeps_first : (w : Program) → KeepsBelow w 20
keeps_first w = record { kept = λ l at lt b. omega (arith, lt, (told w l at b).low) }

-- one more rule is kept
pub keeps_more : (w : Program) (k : ℕ) (found : Option Place) → KeepsBelow w k → found ≡ None
    → IsEarliest (Breaks w k) found → KeepsBelow w (k + 1)
keeps_more w k found below none h = record {
  kept = λ l at lt b. elim (cases_order l k) [
    | inl same ↦ here l at same b
    | inr other ↦ elim other [ inl less ↦ below.kept l at less b | inr more ↦ omega (arith, more, lt) ]
  ];
}
  where
    here : (l : ℕ) (at : Place) → l ≡ k → Breaks w l at → ⊥
    here l at same b =
        let Earliest : Option Place → Type 0 = λ o. IsEarliest (Breaks w k) o in
        subst Earliest none h at (subst (λ j. Breaks w j at) same b)

pub keeps_all : (w : Program) → KeepsBelow w 46 → IsUnbroken w
keeps_all w below = λ k at b. below.kept k at (let high = (told w k at b).high in omega (arith, high)) b

-- the first broken rule
pub first_broken : (w : Program) (k : ℕ) (at : Place) → KeepsBelow w k → IsEarliest (Breaks w k) (Some at)
    → IsFirst w k at
first_broken w k at below h = record {
  broken = h.0;
  first = λ l there b. elim (cases_order l k) [
    | inl same ↦ inr (sym same, h.1 there (subst (λ j. Breaks w j there) same b))
    | inr other ↦ elim other [ inl less ↦ absurd (below.kept l there less b) | inr more ↦ inl more ]
  ];
}

-- E20 and E22 are kept
pub no_repeated_name : (w : Program) (k : ℕ) → 20 < k → KeepsBelow w k → (at : Place) → E20 w at → ⊥
no_repeated_name w k lt below at b = below.kept 20 at lt (inl (refl, b))

pub no_wrong_sort : (w : Program) (k : ℕ) → 22 < k → KeepsBelow w k → (at : Place) → E22 w at → ⊥
no_wrong_sort w k lt below at b = below.kept 22 at lt (inr (inr (inl (refl, b))))

-- a refusal by the first broken rule
pub refuses_first : (w : Program) (k : ℕ) (at : Place) (e : Refusal)
    → e ≡ Broken (record { rule = record { family = E; number = k }; spot = At at })
    → KeepsBelow w k → IsEarliest (Breaks w k) (Some at) → RefusesFirst w e
refuses_first w k at e is below h = subst (RefusesFirst w) (sym is) (refl, first_broken w k at below h)

-- what a program weighs, or that it is too heavy
abbrev pub IsWeighed : Program → Option ℕ → Type 0
IsWeighed w found = MatchOption found (WEIGHT_LIMIT < weight w) (λ n. (n ≡ weight w) × (n ≤ WEIGHT_LIMIT))

-- a weight within the limit
pub light : (w : Program) → weight w ≤ WEIGHT_LIMIT → KeepsBelow w 44 → KeepsBelow w 45
light w le below = keeps_more w 44 None below refl (rule_44 w None (λ at b. omega (arith, le, b.0)))

pub heavy : (w : Program) → WEIGHT_LIMIT < weight w → IsEarliest (Breaks w 44) (Some w.place)
heavy w lt = rule_44 w (Some w.place) ((lt, refl), λ there b. omega (arith, ap (λ (z : Place). z.offset) b.1))
