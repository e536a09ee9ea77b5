-- Rules by their numbers.
use Rattle.std.proofs.Common.{◌≡◌, inl, inr, ℕ, ◌≤◌, refl, sym, subst, arith, Option}
use Rattle.std.specs.Prelude.{◌==◌, MatchBool, ◌↔◌}
use Rattle.mp_base.specs.declared.refusal.Place.{Place}
use Rattle.mp_rules.specs.Breaking.{IsEarliest}
use Rattle.mp_rules.proofs.EarliestPlaces.{earliest_same}
use Rattle.mp_written.specs.declared.program.Program.{Program}
use Rattle.written_rules.specs.Breaking.{Breaks}
use Rattle.written_rules.specs.Rules.{E20, E21, E22, E23, E24, E25, E26, E27, E28, E29, E30, E31, E32, E33, E34, E35, E36}
use Rattle.written_rules.specs.Rules.{E37, E38, E39, E40, E41, E42, E43, E44, E45}

-- where the rule of a number is broken: its definition, once the number is known
abbrev pub rule : ℕ → Program → Place → Type 0
rule k w at =
    MatchBool (k == 20) (E20 w at) (
    MatchBool (k == 21) (E21 w at) (
    MatchBool (k == 22) (E22 w at) (
    MatchBool (k == 23) (E23 w at) (
    MatchBool (k == 24) (E24 w at) (
    MatchBool (k == 25) (E25 w at) (
    MatchBool (k == 26) (E26 w at) (
    MatchBool (k == 27) (E27 w at) (
    MatchBool (k == 28) (E28 w at) (
    MatchBool (k == 29) (E29 w at) (
    MatchBool (k == 30) (E30 w at) (
    MatchBool (k == 31) (E31 w at) (
    MatchBool (k == 32) (E32 w at) (
    MatchBool (k == 33) (E33 w at) (
    MatchBool (k == 34) (E34 w at) (
    MatchBool (k == 35) (E35 w at) (
    MatchBool (k == 36) (E36 w at) (
    MatchBool (k == 37) (E37 w at) (
    MatchBool (k == 38) (E38 w at) (
    MatchBool (k == 39) (E39 w at) (
    MatchBool (k == 40) (E40 w at) (
    MatchBool (k == 41) (E41 w at) (
    MatchBool (k == 42) (E42 w at) (
    MatchBool (k == 43) (E43 w at) (
    MatchBool (k == 44) (E44 w at) (
    MatchBool (k == 45) (E45 w at) (⊥))))))))))))))))))))))))))

-- what is known of a broken rule by its number
pub record Told (w : Program) (k : ℕ) (at : Place) : Type 0 where
  pub low : 20 ≤ k
  pub high : k ≤ 45
  pub broken : rule k w at

numbered : (w : Program) (k : ℕ) (at : Place) (j : ℕ) → k ≡ j → 20 ≤ j → j ≤ 45 → rule j w at → Told w k at
numbered w k at j e low high h =
    record { low = omega (arith, e, low); high = omega (arith, e, high); broken = subst (λ i. rule i w at) (sym e) h }

pub told : (w : Program) (k : ℕ) (at : Place) → Breaks w k at → Told w k at
told w k at
    (inl (e, h)) =
    numbered w k at 20 e (omega arith) (omega arith) h
told w k at
    (inr (inl (e, h))) =
    numbered w k at 21 e (omega arith) (omega arith) h
told w k at
    (inr (inr (inl (e, h)))) =
    numbered w k at 22 e (omega arith) (omega arith) h
told w k at
    (inr (inr (inr (inl (e, h))))) =
    numbered w k at 23 e (omega arith) (omega arith) h
told w k at
    (inr (inr (inr (inr (inl (e, h)))))) =
    numbered w k at 24 e (omega arith) (omega arith) h
told w k at
    (inr (inr (inr (inr (inr (inl (e, h))))))) =
    numbered w k at 25 e (omega arith) (omega arith) h
told w k at
    (inr (inr (inr (inr (inr (inr (inl (e, h)))))))) =
    numbered w k at 26 e (omega arith) (omega arith) h
told w k at
    (inr (inr (inr (inr (inr (inr (inr (inl (e, h))))))))) =
    numbered w k at 27 e (omega arith) (omega arith) h
told w k at
    (inr (inr (inr (inr (inr (inr (inr (inr (inl (e, h)))))))))) =
    numbered w k at 28 e (omega arith) (omega arith) h
told w k at
    (inr (inr (inr (inr (inr (inr (inr (inr (inr (inl (e, h))))))))))) =
    numbered w k at 29 e (omega arith) (omega arith) h
told w k at
    (inr (inr (inr (inr (inr (inr (inr (inr (inr (inr (inl (e, h)))))))))))) =
    numbered w k at 30 e (omega arith) (omega arith) h
told w k at
    (inr (inr (inr (inr (inr (inr (inr (inr (inr (inr (inr (inl (e, h))))))))))))) =
    numbered w k at 31 e (omega arith) (omega arith) h
told w k at
    (inr (inr (inr (inr (inr (inr (inr (inr (inr (inr (inr (inr (inl (e, h)))))))))))))) =
    numbered w k at 32 e (omega arith) (omega arith) h
told w k at
    (inr (inr (inr (inr (inr (inr (inr (inr (inr (inr (inr (inr (inr (inl (e, h))))))))))))))) =
    numbered w k at 33 e (omega arith) (omega arith) h
told w k at
    (inr (inr (inr (inr (inr (inr (inr (inr (inr (inr (inr (inr (inr (inr (inl (e, h)))))))))))))))) =
    numbered w k at 34 e (omega arith) (omega arith) h
told w k at
    (inr (inr (inr (inr (inr (inr (inr (inr (inr (inr (inr (inr (inr (inr (inr (inl (e, h))))))))))))))))) =
    numbered w k at 35 e (omega arith) (omega arith) h
told w k at
    (inr (inr (inr (inr (inr (inr (inr (inr (inr (inr (inr (inr (inr (inr (inr (inr (inl (e, h)))))))))))))))))) =
    numbered w k at 36 e (omega arith) (omega arith) h
told w k at
    (inr (inr (inr (inr (inr (inr (inr (inr (inr (inr (inr (inr (inr (inr (inr (inr (inr (inl (e, h))))))))))))))))))) =
    numbered w k at 37 e (omega arith) (omega arith) h
told w k at
    (inr (inr (inr (inr (inr (inr (inr (inr (inr (inr (inr (inr (inr (inr (inr (inr (inr (inr (inl (e, h)))))))))))))))))))) =
    numbered w k at 38 e (omega arith) (omega arith) h
told w k at
    (inr (inr (inr (inr (inr (inr (inr (inr (inr (inr (inr (inr (inr (inr (inr (inr (inr (inr (inr (inl (e, h))))))))))))))))))))) =
    numbered w k at 39 e (omega arith) (omega arith) h
told w k at
    (inr (inr (inr (inr (inr (inr (inr (inr (inr (inr (inr (inr (inr (inr (inr (inr (inr (inr (inr (inr (inl (e, h)))))))))))))))))))))) =
    numbered w k at 40 e (omega arith) (omega arith) h
told w k at
    (inr (inr (inr (inr (inr (inr (inr (inr (inr (inr (inr (inr (inr (inr (inr (inr (inr (inr (inr (inr (inr (inl (e, h))))))))))))))))))))))) =
    numbered w k at 41 e (omega arith) (omega arith) h
told w k at
    (inr (inr (inr (inr (inr (inr (inr (inr (inr (inr (inr (inr (inr (inr (inr (inr (inr (inr (inr (inr (inr (inr (inl (e, h)))))))))))))))))))))))) =
    numbered w k at 42 e (omega arith) (omega arith) h
told w k at
    (inr (inr (inr (inr (inr (inr (inr (inr (inr (inr (inr (inr (inr (inr (inr (inr (inr (inr (inr (inr (inr (inr (inr (inl (e, h))))))))))))))))))))))))) =
    numbered w k at 43 e (omega arith) (omega arith) h
told w k at
    (inr (inr (inr (inr (inr (inr (inr (inr (inr (inr (inr (inr (inr (inr (inr (inr (inr (inr (inr (inr (inr (inr (inr (inr (inl (e, h)))))))))))))))))))))))))) =
    numbered w k at 44 e (omega arith) (omega arith) h
told w k at
    (inr (inr (inr (inr (inr (inr (inr (inr (inr (inr (inr (inr (inr (inr (inr (inr (inr (inr (inr (inr (inr (inr (inr (inr (inr (e, h)))))))))))))))))))))))))) =
    numbered w k at 45 e (omega arith) (omega arith) h

-- where two rules are broken at the same places, the earliest is the same
pub same_earliest : (P Q : Place → Type 0) (found : Option Place) → ((at : Place) → P at ↔ Q at) → IsEarliest P found
    → IsEarliest Q found
same_earliest P Q found same h = earliest_same P Q found h (λ at b. (same at).0 b) (λ at b. (same at).1 b)

pub rule_20 : (w : Program) (found : Option Place) → IsEarliest (E20 w) found → IsEarliest (Breaks w 20) found
rule_20 w found h =
    earliest_same (E20 w) (Breaks w 20) found h
    (λ at b. inl (refl, b))
    (λ at b. (told w 20 at b).broken)

pub rule_21 : (w : Program) (found : Option Place) → IsEarliest (E21 w) found → IsEarliest (Breaks w 21) found
rule_21 w found h =
    earliest_same (E21 w) (Breaks w 21) found h
    (λ at b. inr (inl (refl, b)))
    (λ at b. (told w 21 at b).broken)

pub rule_22 : (w : Program) (found : Option Place) → IsEarliest (E22 w) found → IsEarliest (Breaks w 22) found
rule_22 w found h =
    earliest_same (E22 w) (Breaks w 22) found h
    (λ at b. inr (inr (inl (refl, b))))
    (λ at b. (told w 22 at b).broken)

pub rule_23 : (w : Program) (found : Option Place) → IsEarliest (E23 w) found → IsEarliest (Breaks w 23) found
rule_23 w found h =
    earliest_same (E23 w) (Breaks w 23) found h
    (λ at b. inr (inr (inr (inl (refl, b)))))
    (λ at b. (told w 23 at b).broken)

pub rule_24 : (w : Program) (found : Option Place) → IsEarliest (E24 w) found → IsEarliest (Breaks w 24) found
rule_24 w found h =
    earliest_same (E24 w) (Breaks w 24) found h
    (λ at b. inr (inr (inr (inr (inl (refl, b))))))
    (λ at b. (told w 24 at b).broken)

pub rule_25 : (w : Program) (found : Option Place) → IsEarliest (E25 w) found → IsEarliest (Breaks w 25) found
rule_25 w found h =
    earliest_same (E25 w) (Breaks w 25) found h
    (λ at b. inr (inr (inr (inr (inr (inl (refl, b)))))))
    (λ at b. (told w 25 at b).broken)

pub rule_26 : (w : Program) (found : Option Place) → IsEarliest (E26 w) found → IsEarliest (Breaks w 26) found
rule_26 w found h =
    earliest_same (E26 w) (Breaks w 26) found h
    (λ at b. inr (inr (inr (inr (inr (inr (inl (refl, b))))))))
    (λ at b. (told w 26 at b).broken)

pub rule_27 : (w : Program) (found : Option Place) → IsEarliest (E27 w) found → IsEarliest (Breaks w 27) found
rule_27 w found h =
    earliest_same (E27 w) (Breaks w 27) found h
    (λ at b. inr (inr (inr (inr (inr (inr (inr (inl (refl, b)))))))))
    (λ at b. (told w 27 at b).broken)

pub rule_28 : (w : Program) (found : Option Place) → IsEarliest (E28 w) found → IsEarliest (Breaks w 28) found
rule_28 w found h =
    earliest_same (E28 w) (Breaks w 28) found h
    (λ at b. inr (inr (inr (inr (inr (inr (inr (inr (inl (refl, b))))))))))
    (λ at b. (told w 28 at b).broken)

pub rule_29 : (w : Program) (found : Option Place) → IsEarliest (E29 w) found → IsEarliest (Breaks w 29) found
rule_29 w found h =
    earliest_same (E29 w) (Breaks w 29) found h
    (λ at b. inr (inr (inr (inr (inr (inr (inr (inr (inr (inl (refl, b)))))))))))
    (λ at b. (told w 29 at b).broken)

pub rule_30 : (w : Program) (found : Option Place) → IsEarliest (E30 w) found → IsEarliest (Breaks w 30) found
rule_30 w found h =
    earliest_same (E30 w) (Breaks w 30) found h
    (λ at b. inr (inr (inr (inr (inr (inr (inr (inr (inr (inr (inl (refl, b))))))))))))
    (λ at b. (told w 30 at b).broken)

pub rule_31 : (w : Program) (found : Option Place) → IsEarliest (E31 w) found → IsEarliest (Breaks w 31) found
rule_31 w found h =
    earliest_same (E31 w) (Breaks w 31) found h
    (λ at b. inr (inr (inr (inr (inr (inr (inr (inr (inr (inr (inr (inl (refl, b)))))))))))))
    (λ at b. (told w 31 at b).broken)

pub rule_32 : (w : Program) (found : Option Place) → IsEarliest (E32 w) found → IsEarliest (Breaks w 32) found
rule_32 w found h =
    earliest_same (E32 w) (Breaks w 32) found h
    (λ at b. inr (inr (inr (inr (inr (inr (inr (inr (inr (inr (inr (inr (inl (refl, b))))))))))))))
    (λ at b. (told w 32 at b).broken)

pub rule_33 : (w : Program) (found : Option Place) → IsEarliest (E33 w) found → IsEarliest (Breaks w 33) found
rule_33 w found h =
    earliest_same (E33 w) (Breaks w 33) found h
    (λ at b. inr (inr (inr (inr (inr (inr (inr (inr (inr (inr (inr (inr (inr (inl (refl, b)))))))))))))))
    (λ at b. (told w 33 at b).broken)

pub rule_34 : (w : Program) (found : Option Place) → IsEarliest (E34 w) found → IsEarliest (Breaks w 34) found
rule_34 w found h =
    earliest_same (E34 w) (Breaks w 34) found h
    (λ at b. inr (inr (inr (inr (inr (inr (inr (inr (inr (inr (inr (inr (inr (inr (inl (refl, b))))))))))))))))
    (λ at b. (told w 34 at b).broken)

pub rule_35 : (w : Program) (found : Option Place) → IsEarliest (E35 w) found → IsEarliest (Breaks w 35) found
rule_35 w found h =
    earliest_same (E35 w) (Breaks w 35) found h
    (λ at b. inr (inr (inr (inr (inr (inr (inr (inr (inr (inr (inr (inr (inr (inr (inr (inl (refl, b)))))))))))))))))
    (λ at b. (told w 35 at b).broken)

pub rule_36 : (w : Program) (found : Option Place) → IsEarliest (E36 w) found → IsEarliest (Breaks w 36) found
rule_36 w found h =
    earliest_same (E36 w) (Breaks w 36) found h
    (λ at b. inr (inr (inr (inr (inr (inr (inr (inr (inr (inr (inr (inr (inr (inr (inr (inr (inl (refl, b))))))))))))))))))
    (λ at b. (told w 36 at b).broken)

pub rule_37 : (w : Program) (found : Option Place) → IsEarliest (E37 w) found → IsEarliest (Breaks w 37) found
rule_37 w found h =
    earliest_same (E37 w) (Breaks w 37) found h
    (λ at b. inr (inr (inr (inr (inr (inr (inr (inr (inr (inr (inr (inr (inr (inr (inr (inr (inr (inl (refl, b)))))))))))))))))))
    (λ at b. (told w 37 at b).broken)

pub rule_38 : (w : Program) (found : Option Place) → IsEarliest (E38 w) found → IsEarliest (Breaks w 38) found
rule_38 w found h =
    earliest_same (E38 w) (Breaks w 38) found h
    (λ at b. inr (inr (inr (inr (inr (inr (inr (inr (inr (inr (inr (inr (inr (inr (inr (inr (inr (inr (inl (refl, b))))))))))))))))))))
    (λ at b. (told w 38 at b).broken)

pub rule_39 : (w : Program) (found : Option Place) → IsEarliest (E39 w) found → IsEarliest (Breaks w 39) found
rule_39 w found h =
    earliest_same (E39 w) (Breaks w 39) found h
    (λ at b. inr (inr (inr (inr (inr (inr (inr (inr (inr (inr (inr (inr (inr (inr (inr (inr (inr (inr (inr (inl (refl, b)))))))))))))))))))))
    (λ at b. (told w 39 at b).broken)

pub rule_40 : (w : Program) (found : Option Place) → IsEarliest (E40 w) found → IsEarliest (Breaks w 40) found
rule_40 w found h =
    earliest_same (E40 w) (Breaks w 40) found h
    (λ at b. inr (inr (inr (inr (inr (inr (inr (inr (inr (inr (inr (inr (inr (inr (inr (inr (inr (inr (inr (inr (inl (refl, b))))))))))))))))))))))
    (λ at b. (told w 40 at b).broken)

pub rule_41 : (w : Program) (found : Option Place) → IsEarliest (E41 w) found → IsEarliest (Breaks w 41) found
rule_41 w found h =
    earliest_same (E41 w) (Breaks w 41) found h
    (λ at b. inr (inr (inr (inr (inr (inr (inr (inr (inr (inr (inr (inr (inr (inr (inr (inr (inr (inr (inr (inr (inr (inl (refl, b)))))))))))))))))))))))
    (λ at b. (told w 41 at b).broken)

pub rule_42 : (w : Program) (found : Option Place) → IsEarliest (E42 w) found → IsEarliest (Breaks w 42) found
rule_42 w found h =
    earliest_same (E42 w) (Breaks w 42) found h
    (λ at b. inr (inr (inr (inr (inr (inr (inr (inr (inr (inr (inr (inr (inr (inr (inr (inr (inr (inr (inr (inr (inr (inr (inl (refl, b))))))))))))))))))))))))
    (λ at b. (told w 42 at b).broken)

pub rule_43 : (w : Program) (found : Option Place) → IsEarliest (E43 w) found → IsEarliest (Breaks w 43) found
rule_43 w found h =
    earliest_same (E43 w) (Breaks w 43) found h
    (λ at b. inr (inr (inr (inr (inr (inr (inr (inr (inr (inr (inr (inr (inr (inr (inr (inr (inr (inr (inr (inr (inr (inr (inr (inl (refl, b)))))))))))))))))))))))))
    (λ at b. (told w 43 at b).broken)

pub rule_44 : (w : Program) (found : Option Place) → IsEarliest (E44 w) found → IsEarliest (Breaks w 44) found
rule_44 w found h =
    earliest_same (E44 w) (Breaks w 44) found h
    (λ at b. inr (inr (inr (inr (inr (inr (inr (inr (inr (inr (inr (inr (inr (inr (inr (inr (inr (inr (inr (inr (inr (inr (inr (inr (inl (refl, b))))))))))))))))))))))))))
    (λ at b. (told w 44 at b).broken)

pub rule_45 : (w : Program) (found : Option Place) → IsEarliest (E45 w) found → IsEarliest (Breaks w 45) found
rule_45 w found h =
    earliest_same (E45 w) (Breaks w 45) found h
    (λ at b. inr (inr (inr (inr (inr (inr (inr (inr (inr (inr (inr (inr (inr (inr (inr (inr (inr (inr (inr (inr (inr (inr (inr (inr (inr ((refl, b)))))))))))))))))))))))))))
    (λ at b. (told w 45 at b).broken)
