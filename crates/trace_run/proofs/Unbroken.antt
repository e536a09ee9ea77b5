-- The rules that a program keeps, one by one.
use Rattle.std.proofs.Common.{refl, inl, inr}
use Rattle.mp_base.specs.declared.refusal.Place.{Place}
use Rattle.mp_program.specs.declared.program.Program.{Program}
use Rattle.mp_rules.specs.Rules.{E20, E22, E23}
use Rattle.mp_rules.specs.Breaking.{IsUnbroken}

pub keeps_20 : (p : Program) → IsUnbroken p → (at : Place) → E20 p at → ⊥
keeps_20 p unbroken at e = unbroken 20 at (inl (refl, e))

pub keeps_22 : (p : Program) → IsUnbroken p → (at : Place) → E22 p at → ⊥
keeps_22 p unbroken at e = unbroken 22 at (inr (inr (inl (refl, e))))

pub keeps_23 : (p : Program) → IsUnbroken p → (at : Place) → E23 p at → ⊥
keeps_23 p unbroken at e = unbroken 23 at (inr (inr (inr (inl (refl, e)))))
