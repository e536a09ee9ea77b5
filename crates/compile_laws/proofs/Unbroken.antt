-- What a program that breaks no rule keeps.
use Rattle.std.proofs.Common.{◌≤◌, refl, inl, inr}
use Rattle.std.proofs.lemmas.Bool.{cases_lt}
use Rattle.mp_base.specs.declared.refusal.Place.{Place}
use Rattle.mp_program.specs.declared.program.Program.{Program}
use Rattle.mp_program.specs.Weight.{weight}
use Rattle.mp_rules.specs.Rules.{E33}
use Rattle.mp_rules.specs.Breaking.{IsUnbroken}

pub keeps_33 : (p : Program) → IsUnbroken p → (at : Place) → ¬ E33 p at
keeps_33 p unbroken at e = unbroken 33 at (inr (inr (inr
    (inr (inr (inr (inr (inr (inr (inr (inr (inr (inr (inl (refl, e)))))))))))))))

pub small_weight : (p : Program) → IsUnbroken p → weight p ≤ 1024
small_weight p h = elim (cases_lt 1024 (weight p)) [
  | inl heavy ↦ absurd (h 44 p.place (inr (inr (inr (inr
      (inr (inr (inr (inr (inr (inr (inr (inr (inr (inr
      (inr (inr (inr (inr (inr (inr (inr (inl (refl, (heavy, refl)))))))))))))))))))))))))
  | inr light ↦ light
]
