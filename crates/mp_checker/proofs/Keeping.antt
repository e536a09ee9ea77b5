-- Rules that are kept, one after another.
use Rattle.std.proofs.Common.{◌≡◌, inl, inr, ℕ, ◌+◌, ◌<◌, ◌≤◌, refl, sym, ap, subst, arith, Option, Some, None}
use Rattle.std.proofs.Common.{MatchOption}
use Rattle.std.proofs.lemmas.Bool.{cases_order}
use Rattle.mp_base.specs.declared.limits.TheConstants.{WEIGHT_LIMIT}
use Rattle.mp_base.specs.declared.refusal.Place.{Place}
use Rattle.mp_base.specs.declared.refusal.Family.TheVariants.{E}
use Rattle.mp_base.specs.declared.refusal.Spot.TheVariants.{At}
use Rattle.mp_base.specs.declared.refusal.Refusal.{Refusal}
use Rattle.mp_base.specs.declared.refusal.Refusal.TheVariants.{Broken}
use Rattle.mp_program.specs.declared.program.Program.{Program}
use Rattle.mp_program.specs.Weight.{weight}
use Rattle.mp_rules.specs.Breaking.{Breaks, IsEarliest, IsFirst, IsUnbroken, RefusesFirst}
use Rattle.mp_rules.specs.Rules.{E20}
use Rattle.mp_checker.specs.Kept.{KeepsBelow}
use Rattle.mp_checker.proofs.Ruled.{told, rule_44}

pub keeps_first : (p : Program) → KeepsBelow p 20
keeps_first p = record { kept = λ l at lt b. omega (arith, lt, (told p l at b).low) }

-- one more rule is kept
pub keeps_more : (p : Program) (k : ℕ) (found : Option Place) → KeepsBelow p k → found ≡ None
    → IsEarliest (Breaks p k) found → KeepsBelow p (k + 1)
keeps_more p k found below none h = record {
  kept = λ l at lt b. elim (cases_order l k) [
    | inl same ↦ here l at same b
    | inr other ↦ elim other [ inl less ↦ below.kept l at less b | inr more ↦ omega (arith, more, lt) ]
  ];
}
  where
    here : (l : ℕ) (at : Place) → l ≡ k → Breaks p l at → ⊥
    here l at same b =
        let Earliest : Option Place → Type 0 = λ o. IsEarliest (Breaks p k) o in
        subst Earliest none h at (subst (λ j. Breaks p j at) same b)

-- there are no rules between E36 and E40
pub keeps_gap : (p : Program) → KeepsBelow p 37 → KeepsBelow p 40
keeps_gap p below = record {
  kept = λ l at lt b. elim (cases_order l 37) [
    | inl same ↦ (told p 37 at (subst (λ j. Breaks p j at) same b)).broken
    | inr other ↦ elim other [
      | inl less ↦ below.kept l at less b
      | inr more ↦ elim (cases_order l 38) [
        | inl same ↦ (told p 38 at (subst (λ j. Breaks p j at) same b)).broken
        | inr others ↦ elim others [
          | inl less ↦ omega (arith, more, less)
          | inr last ↦
              (told p 39 at (subst (λ j. Breaks p j at) (let e : l ≡ 39 = omega (arith, last, lt) in e) b)).broken
        ]
      ]
    ]
  ];
}

pub keeps_all : (p : Program) → KeepsBelow p 46 → IsUnbroken p
keeps_all p below = λ k at b. below.kept k at (let high = (told p k at b).high in omega (arith, high)) b

-- the first broken rule
pub first_broken : (p : Program) (k : ℕ) (at : Place) → KeepsBelow p k → IsEarliest (Breaks p k) (Some at)
    → IsFirst p k at
first_broken p k at below h = record {
  broken = h.0;
  first = λ l there b. elim (cases_order l k) [
    | inl same ↦ inr (sym same, h.1 there (subst (λ j. Breaks p j there) same b))
    | inr other ↦ elim other [ inl less ↦ absurd (below.kept l there less b) | inr more ↦ inl more ]
  ];
}

-- E20 is kept
pub no_repeated_name : (p : Program) (k : ℕ) → 20 < k → KeepsBelow p k → (at : Place) → E20 p at → ⊥
no_repeated_name p k lt below at b = below.kept 20 at lt (inl (refl, b))

-- a refusal by the first broken rule
pub refuses_first : (p : Program) (k : ℕ) (at : Place) (e : Refusal)
    → e ≡ Broken (record { rule = record { family = E; number = k }; spot = At at })
    → KeepsBelow p k → IsEarliest (Breaks p k) (Some at) → RefusesFirst p e
refuses_first p k at e is below h = subst (RefusesFirst p) (sym is) (refl, first_broken p k at below h)

-- what a program weighs, or that it is too heavy
abbrev pub IsWeighed : Program → Option ℕ → Type 0
IsWeighed p found = MatchOption found (WEIGHT_LIMIT < weight p) (λ w. (w ≡ weight p) × (w ≤ WEIGHT_LIMIT))

-- a weight within the limit
pub light : (p : Program) → weight p ≤ WEIGHT_LIMIT → KeepsBelow p 44 → KeepsBelow p 45
light p le below = keeps_more p 44 None below refl (rule_44 p None (λ at b. omega (arith, le, b.0)))

pub heavy : (p : Program) → WEIGHT_LIMIT < weight p → IsEarliest (Breaks p 44) (Some p.place)
heavy p lt = rule_44 p (Some p.place) ((lt, refl), λ there b. omega (arith, ap (λ (z : Place). z.offset) b.1))
