use Rattle.std.proofs.Common.{refl, inl, inr, arith}
use Rattle.std.proofs.lemmas.Bool.{cases_lt}
use Rattle.mp_base.specs.declared.limits.TheConstants.{WEIGHT_LIMIT}
use Rattle.mp_program.specs.Weight.{weight}
use Rattle.mp_checker.proofs.checked.weight.Goals as goal

pub returns-clause-light : goal.returns-clause-light
returns-clause-light c =
    let p = c.args.checked.now.program in
    elim (cases_lt WEIGHT_LIMIT (weight p)) [
      | inl heavy ↦
          absurd (c.weighed.ensures.unbroken 44 p.place
          (inr (inr (inr (inr (inr (inr (inr (inr (inr (inr (inr
          (inr (inr (inr (inr (inr (inr (inr (inr (inr (inr (inl (refl, (heavy, refl)))))))))))))))))))))))))
      | inr light ↦ omega (arith, light, c.weighed.ensures.weight)
    ]
