-- The rules that a program keeps which breaks none.
use Rattle.std.proofs.Common.{inl, inr, refl}
use Rattle.mp_base.specs.declared.refusal.Place.{Place}
use Rattle.mp_program.specs.declared.program.Program.{Program}
use Rattle.mp_rules.specs.Breaking.{IsUnbroken}
use Rattle.mp_rules.specs.Rules.{E20, E22, E23, E24, E27, E32, E34, E36}

module _ (p : Program) (unbroken : IsUnbroken p) where
  pub keeps_20 : (at : Place) → E20 p at → ⊥
  keeps_20 at broken = unbroken 20 at (inl (refl, broken))

  pub keeps_22 : (at : Place) → E22 p at → ⊥
  keeps_22 at broken = unbroken 22 at (inr (inr (inl (refl, broken))))

  pub keeps_23 : (at : Place) → E23 p at → ⊥
  keeps_23 at broken = unbroken 23 at (inr (inr (inr (inl (refl, broken)))))

  pub keeps_24 : (at : Place) → E24 p at → ⊥
  keeps_24 at broken = unbroken 24 at (inr (inr (inr (inr (inl (refl, broken))))))

  pub keeps_27 : (at : Place) → E27 p at → ⊥
  keeps_27 at broken = unbroken 27 at (inr (inr (inr (inr (inr (inr (inr (inl (refl, broken)))))))))

  pub keeps_32 : (at : Place) → E32 p at → ⊥
  keeps_32 at broken = unbroken 32 at (inr (inr (inr (inr
      (inr (inr (inr (inr (inr (inr (inr (inr (inl (refl, broken))))))))))))))

  pub keeps_34 : (at : Place) → E34 p at → ⊥
  keeps_34 at broken = unbroken 34 at (inr (inr (inr (inr
      (inr (inr (inr (inr (inr (inr (inr (inr (inr (inr (inl (refl, broken))))))))))))))))

  pub keeps_36 : (at : Place) → E36 p at → ⊥
  keeps_36 at broken = unbroken 36 at (inr (inr (inr (inr
      (inr (inr (inr (inr (inr (inr (inr (inr (inr (inr (inr (inr (inl (refl, broken))))))))))))))))))
