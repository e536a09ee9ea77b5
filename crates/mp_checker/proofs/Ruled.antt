-- Rules by their numbers.
use Rattle.std.proofs.Common.{◌≡◌, inl, inr, ℕ, ◌≤◌, refl, sym, subst, arith, Option}
use Rattle.std.specs.Prelude.{◌==◌, MatchBool}
use Rattle.mp_base.specs.declared.refusal.Place.{Place}
use Rattle.mp_program.specs.declared.program.Program.{Program}
use Rattle.mp_rules.specs.Breaking.{Breaks, IsEarliest}
use Rattle.mp_rules.specs.Rules.{E20, E21, E22, E23, E24, E25, E26, E27, E28, E29, E30, E31, E32, E33, E34, E35, E36}
use Rattle.mp_rules.specs.Rules.{E40, E41, E42, E43, E44, E45}
use Rattle.mp_rules.proofs.EarliestPlaces.{earliest_same}

-- where the rule of a number is broken: its definition, once the number is known
abbrev pub rule : ℕ → Program → Place → Type 0
rule k p at =
    MatchBool (k == 20) (E20 p at)
    (MatchBool (k == 21) (E21 p at) (MatchBool (k == 22) (E22 p at) (MatchBool (k == 23) (E23 p at) (
    MatchBool (k == 24) (E24 p at)
    (MatchBool (k == 25) (E25 p at) (MatchBool (k == 26) (E26 p at) (MatchBool (k == 27) (E27 p at) (
    MatchBool (k == 28) (E28 p at)
    (MatchBool (k == 29) (E29 p at) (MatchBool (k == 30) (E30 p at) (MatchBool (k == 31) (E31 p at) (
    MatchBool (k == 32) (E32 p at)
    (MatchBool (k == 33) (E33 p at) (MatchBool (k == 34) (E34 p at) (MatchBool (k == 35) (E35 p at) (
    MatchBool (k == 36) (E36 p at)
    (MatchBool (k == 40) (E40 p at) (MatchBool (k == 41) (E41 p at) (MatchBool (k == 42) (E42 p at) (
    MatchBool (k == 43) (E43 p at)
    (MatchBool (k == 44) (E44 p at) (MatchBool (k == 45) (E45 p at) (⊥)))))))))))))))))))))))

-- what is known of a broken rule by its number
pub record Told (p : Program) (k : ℕ) (at : Place) : Type 0 where
  pub low : 20 ≤ k
  pub high : k ≤ 45
  pub broken : rule k p at

numbered : (p : Program) (k : ℕ) (at : Place) (j : ℕ) → k ≡ j → 20 ≤ j → j ≤ 45 → rule j p at → Told p k at
numbered p k at j e low high h =
    record { low = omega (arith, e, low); high = omega (arith, e, high); broken = subst (λ i. rule i p at) (sym e) h }

pub told : (p : Program) (k : ℕ) (at : Place) → Breaks p k at → Told p k at
told p k at (inl (e, h)) = numbered p k at 20 e (omega arith) (omega arith) h
told p k at (inr (inl (e, h))) = numbered p k at 21 e (omega arith) (omega arith) h
told p k at (inr (inr (inl (e, h)))) = numbered p k at 22 e (omega arith) (omega arith) h
told p k at (inr (inr (inr (inl (e, h))))) = numbered p k at 23 e (omega arith) (omega arith) h
told p k at (inr (inr (inr (inr (inl (e, h)))))) = numbered p k at 24 e (omega arith) (omega arith) h
told p k at (inr (inr (inr (inr (inr (inl (e, h))))))) = numbered p k at 25 e (omega arith) (omega arith) h
told p k at (inr (inr (inr (inr (inr (inr (inl (e, h)))))))) = numbered p k at 26 e (omega arith) (omega arith) h
told p k at (inr (inr (inr (inr (inr (inr (inr (inl (e, h))))))))) = numbered p k at 27 e (omega arith) (omega arith) h
told p k at (inr (inr (inr (inr (inr (inr (inr (inr (inl (e, h)))))))))) =
    numbered p k at 28 e (omega arith) (omega arith) h
told p k at (inr (inr (inr (inr (inr (inr (inr (inr (inr (inl (e, h))))))))))) =
    numbered p k at 29 e (omega arith) (omega arith) h
told p k at (inr (inr (inr (inr (inr (inr (inr (inr (inr (inr (inl (e, h)))))))))))) =
    numbered p k at 30 e (omega arith) (omega arith) h
told p k at (inr (inr (inr (inr (inr (inr (inr (inr (inr (inr (inr (inl (e, h))))))))))))) =
    numbered p k at 31 e (omega arith) (omega arith) h
told p k at (inr (inr (inr (inr (inr (inr (inr (inr (inr (inr (inr (inr (inl (e, h)))))))))))))) =
    numbered p k at 32 e (omega arith) (omega arith) h
told p k at (inr (inr (inr (inr (inr (inr (inr (inr (inr (inr (inr (inr (inr (inl (e, h))))))))))))))) =
    numbered p k at 33 e (omega arith) (omega arith) h
told p k at (inr (inr (inr (inr (inr (inr (inr (inr (inr (inr (inr (inr (inr (inr (inl (e, h)))))))))))))))) =
    numbered p k at 34 e (omega arith) (omega arith) h
told p k at (inr (inr (inr (inr (inr (inr (inr (inr (inr (inr (inr (inr (inr (inr (inr (inl (e, h))))))))))))))))) =
    numbered p k at 35 e (omega arith) (omega arith) h
told p k at
    (inr (inr (inr (inr (inr (inr (inr (inr (inr (inr (inr (inr (inr (inr (inr (inr (inl (e, h)))))))))))))))))) =
    numbered p k at 36 e (omega arith) (omega arith) h
told p k at
    (inr (inr (inr (inr (inr (inr (inr (inr (inr (inr (inr (inr (inr (inr (inr (inr (inr (inl (e, h))))))))))))))))))) =
    numbered p k at 40 e (omega arith) (omega arith) h
told p k at
    (inr (inr (inr (inr (inr (inr (inr (inr (inr (inr (inr (inr (inr (inr (inr (inr (inr (inr
    (inl (e, h)))))))))))))))))))) =
    numbered p k at 41 e (omega arith) (omega arith) h
told p k at
    (inr (inr (inr (inr (inr (inr (inr (inr (inr (inr (inr (inr (inr (inr (inr (inr (inr (inr (inr
    (inl (e, h))))))))))))))))))))) =
    numbered p k at 42 e (omega arith) (omega arith) h
told p k at
    (inr (inr (inr (inr (inr (inr (inr (inr (inr (inr (inr (inr (inr (inr (inr (inr (inr (inr (inr (inr
    (inl (e, h)))))))))))))))))))))) =
    numbered p k at 43 e (omega arith) (omega arith) h
told p k at
    (inr (inr (inr (inr (inr (inr (inr (inr (inr (inr (inr (inr (inr (inr (inr (inr (inr (inr (inr (inr (inr
    (inl (e, h))))))))))))))))))))))) =
    numbered p k at 44 e (omega arith) (omega arith) h
told p k at
    (inr (inr (inr (inr (inr (inr (inr (inr (inr (inr (inr (inr (inr (inr (inr (inr (inr (inr (inr (inr (inr (inr
    ((e, h)))))))))))))))))))))))) =
    numbered p k at 45 e (omega arith) (omega arith) h

pub rule_20 : (p : Program) (found : Option Place) → IsEarliest (E20 p) found → IsEarliest (Breaks p 20) found
rule_20 p found h =
    earliest_same (E20 p) (Breaks p 20) found h (λ at b. inl (refl, b)) (λ at b. (told p 20 at b).broken)

pub rule_21 : (p : Program) (found : Option Place) → IsEarliest (E21 p) found → IsEarliest (Breaks p 21) found
rule_21 p found h =
    earliest_same (E21 p) (Breaks p 21) found h (λ at b. inr (inl (refl, b))) (λ at b. (told p 21 at b).broken)

pub rule_22 : (p : Program) (found : Option Place) → IsEarliest (E22 p) found → IsEarliest (Breaks p 22) found
rule_22 p found h =
    earliest_same (E22 p) (Breaks p 22) found h (λ at b. inr (inr (inl (refl, b)))) (λ at b. (told p 22 at b).broken)

pub rule_23 : (p : Program) (found : Option Place) → IsEarliest (E23 p) found → IsEarliest (Breaks p 23) found
rule_23 p found h =
    earliest_same (E23 p) (Breaks p 23) found h
    (λ at b. inr (inr (inr (inl (refl, b))))) (λ at b. (told p 23 at b).broken)

pub rule_24 : (p : Program) (found : Option Place) → IsEarliest (E24 p) found → IsEarliest (Breaks p 24) found
rule_24 p found h =
    earliest_same (E24 p) (Breaks p 24) found h
    (λ at b. inr (inr (inr (inr (inl (refl, b)))))) (λ at b. (told p 24 at b).broken)

pub rule_25 : (p : Program) (found : Option Place) → IsEarliest (E25 p) found → IsEarliest (Breaks p 25) found
rule_25 p found h =
    earliest_same (E25 p) (Breaks p 25) found h
    (λ at b. inr (inr (inr (inr (inr (inl (refl, b))))))) (λ at b. (told p 25 at b).broken)

pub rule_26 : (p : Program) (found : Option Place) → IsEarliest (E26 p) found → IsEarliest (Breaks p 26) found
rule_26 p found h =
    earliest_same (E26 p) (Breaks p 26) found h
    (λ at b. inr (inr (inr (inr (inr (inr (inl (refl, b)))))))) (λ at b. (told p 26 at b).broken)

pub rule_27 : (p : Program) (found : Option Place) → IsEarliest (E27 p) found → IsEarliest (Breaks p 27) found
rule_27 p found h =
    earliest_same (E27 p) (Breaks p 27) found h
    (λ at b. inr (inr (inr (inr (inr (inr (inr (inl (refl, b))))))))) (λ at b. (told p 27 at b).broken)

pub rule_28 : (p : Program) (found : Option Place) → IsEarliest (E28 p) found → IsEarliest (Breaks p 28) found
rule_28 p found h =
    earliest_same (E28 p) (Breaks p 28) found h
    (λ at b. inr (inr (inr (inr (inr (inr (inr (inr (inl (refl, b)))))))))) (λ at b. (told p 28 at b).broken)

pub rule_29 : (p : Program) (found : Option Place) → IsEarliest (E29 p) found → IsEarliest (Breaks p 29) found
rule_29 p found h =
    earliest_same (E29 p) (Breaks p 29) found
    h (λ at b. inr (inr (inr (inr (inr (inr (inr (inr (inr (inl (refl, b))))))))))) (λ at b. (told p 29 at b).broken)

pub rule_30 : (p : Program) (found : Option Place) → IsEarliest (E30 p) found → IsEarliest (Breaks p 30) found
rule_30 p found h =
    earliest_same (E30 p) (Breaks p 30) found
    h
    (λ at b. inr (inr (inr (inr (inr (inr (inr (inr (inr (inr (inl (refl, b))))))))))))
    (λ at b. (told p 30 at b).broken)

pub rule_31 : (p : Program) (found : Option Place) → IsEarliest (E31 p) found → IsEarliest (Breaks p 31) found
rule_31 p found h =
    earliest_same (E31 p) (Breaks p 31) found
    h
    (λ at b. inr (inr (inr (inr (inr (inr (inr (inr (inr (inr (inr (inl (refl, b)))))))))))))
    (λ at b. (told p 31 at b).broken)

pub rule_32 : (p : Program) (found : Option Place) → IsEarliest (E32 p) found → IsEarliest (Breaks p 32) found
rule_32 p found h =
    earliest_same (E32 p) (Breaks p 32) found
    h
    (λ at b. inr (inr (inr (inr (inr (inr (inr (inr (inr (inr (inr (inr (inl (refl, b))))))))))))))
    (λ at b. (told p 32 at b).broken)

pub rule_33 : (p : Program) (found : Option Place) → IsEarliest (E33 p) found → IsEarliest (Breaks p 33) found
rule_33 p found h =
    earliest_same (E33 p) (Breaks p 33) found
    h
    (λ at b. inr (inr (inr (inr (inr (inr (inr (inr (inr (inr (inr (inr (inr (inl (refl, b)))))))))))))))
    (λ at b. (told p 33 at b).broken)

pub rule_34 : (p : Program) (found : Option Place) → IsEarliest (E34 p) found → IsEarliest (Breaks p 34) found
rule_34 p found h =
    earliest_same (E34 p) (Breaks p 34) found
    h
    (λ at b. inr (inr (inr (inr (inr (inr (inr (inr (inr (inr (inr (inr (inr (inr (inl (refl, b))))))))))))))))
    (λ at b. (told p 34 at b).broken)

pub rule_35 : (p : Program) (found : Option Place) → IsEarliest (E35 p) found → IsEarliest (Breaks p 35) found
rule_35 p found h =
    earliest_same (E35 p) (Breaks p 35) found
    h
    (λ at b. inr (inr (inr (inr (inr (inr (inr (inr (inr (inr (inr (inr (inr (inr (inr (inl (refl, b)))))))))))))))))
    (λ at b. (told p 35 at b).broken)

pub rule_36 : (p : Program) (found : Option Place) → IsEarliest (E36 p) found → IsEarliest (Breaks p 36) found
rule_36 p found h =
    earliest_same (E36 p) (Breaks p 36) found
    h
    (λ at b. inr
    (inr (inr (inr (inr (inr (inr (inr (inr (inr (inr (inr (inr (inr (inr (inr (inl (refl, b))))))))))))))))))
    (λ at b. (told p 36 at b).broken)

pub rule_40 : (p : Program) (found : Option Place) → IsEarliest (E40 p) found → IsEarliest (Breaks p 40) found
rule_40 p found h =
    earliest_same (E40 p) (Breaks p 40) found
    h
    (λ at b. inr
    (inr (inr (inr (inr (inr (inr (inr (inr (inr (inr (inr (inr (inr (inr (inr (inr (inl (refl, b)))))))))))))))))))
    (λ at b. (told p 40 at b).broken)

pub rule_41 : (p : Program) (found : Option Place) → IsEarliest (E41 p) found → IsEarliest (Breaks p 41) found
rule_41 p found h =
    earliest_same (E41 p) (Breaks p 41) found
    h
    (λ at b. inr
    (inr (inr
    (inr (inr (inr (inr (inr (inr (inr (inr (inr (inr (inr (inr (inr (inr (inr (inl (refl, b))))))))))))))))))))
    (λ at b. (told p 41 at b).broken)

pub rule_42 : (p : Program) (found : Option Place) → IsEarliest (E42 p) found → IsEarliest (Breaks p 42) found
rule_42 p found h =
    earliest_same (E42 p) (Breaks p 42) found
    h
    (λ at b. inr
    (inr (inr
    (inr (inr (inr (inr (inr (inr (inr (inr (inr (inr (inr (inr (inr (inr (inr (inr (inl (refl, b)))))))))))))))))))))
    (λ at b. (told p 42 at b).broken)

pub rule_43 : (p : Program) (found : Option Place) → IsEarliest (E43 p) found → IsEarliest (Breaks p 43) found
rule_43 p found h =
    earliest_same (E43 p) (Breaks p 43) found
    h
    (λ at b. inr
    (inr (inr
    (inr (inr
    (inr (inr (inr (inr (inr (inr (inr (inr (inr (inr (inr (inr (inr (inr (inr (inl (refl, b))))))))))))))))))))))
    (λ at b. (told p 43 at b).broken)

pub rule_44 : (p : Program) (found : Option Place) → IsEarliest (E44 p) found → IsEarliest (Breaks p 44) found
rule_44 p found h =
    earliest_same (E44 p) (Breaks p 44) found
    h
    (λ at b. inr
    (inr (inr
    (inr (inr
    (inr (inr
    (inr (inr (inr (inr (inr (inr (inr (inr (inr (inr (inr (inr (inr (inr (inl (refl, b)))))))))))))))))))))))
    (λ at b. (told p 44 at b).broken)

pub rule_45 : (p : Program) (found : Option Place) → IsEarliest (E45 p) found → IsEarliest (Breaks p 45) found
rule_45 p found h =
    earliest_same (E45 p) (Breaks p 45) found
    h
    (λ at b. inr
    (inr (inr
    (inr (inr
    (inr (inr
    (inr (inr (inr (inr (inr (inr (inr (inr (inr (inr (inr (inr (inr (inr (inr ((refl, b))))))))))))))))))))))))
    (λ at b. (told p 45 at b).broken)
