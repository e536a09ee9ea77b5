-- What a program that breaks no rule keeps, for all crates above.
use Rattle.std.proofs.Common.{inr, inl, refl}
use Rattle.mp_base.specs.declared.refusal.Place.{Place}
use Rattle.mp_program.specs.declared.program.Program.{Program}
use Rattle.mp_rules.specs.Breaking.{IsUnbroken}
use Rattle.mp_rules.specs.Rules.{E36}

pub keeps_36 : (p : Program) → IsUnbroken p → (at : Place) → E36 p at → ⊥
keeps_36 p unbroken at e =
    unbroken 36 at
    (inr (inr (inr (inr (inr (inr (inr (inr (inr (inr (inr (inr (inr (inr (inr (inr (inl (refl, e))))))))))))))))))
