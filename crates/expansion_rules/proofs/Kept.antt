-- Where what is written breaks no rule, its expansion exists and breaks none.
use Rattle.std.proofs.Common.{◌∙◌, inl, inr, ◌<◌, ◌≤◌, refl, subst}
use Rattle.std.proofs.lemmas.Bool.{cases_lt}
use Rattle.mp_base.specs.declared.refusal.Place.{Place}
use Rattle.mp_base.specs.declared.limits.TheConstants.{WEIGHT_LIMIT}
use Rattle.mp_program.specs.declared.program.Program as plain
use Rattle.mp_rules.specs.Breaking as plain_breaking
use Rattle.mp_rules.specs.Rules as plain_rules
use Rattle.mp_rules.specs.declared.limits.TheConstants.{EXPR_LIMIT}
use Rattle.mp_written.specs.declared.program.Program.{Program}
use Rattle.mp_written.specs.Expansion.{IsExpansion}
use Rattle.mp_written.specs.Weight.{weight}
use Rattle.written_rules.specs.Breaking.{IsUnbroken}
use Rattle.written_rules.specs.Rules as rules
use Rattle.expansion_laws.specs.Lawful.{IsLawfulProgram}
use Rattle.expansion_laws.proofs.Existing.{expansion_exists}
use Rattle.expansion_laws.proofs.Weights.{expansion_weighs, expansion_counts}
use Rattle.expansion_rules.proofs.LawfulUses.{uses_are_lawful}
use Rattle.expansion_rules.proofs.Numbers.{expansion_keeps23, expansion_keeps24}
use Rattle.expansion_rules.proofs.Cycles.{expansion_keeps33}
use Rattle.expansion_rules.proofs.KeptForms.{keeps28, keeps29, keeps30, keeps31, keeps32, keeps36, keeps41, keeps42, keeps43}
use Rattle.expansion_rules.proofs.KeptDefs.{keeps20, keeps25, keeps26, keeps27, keeps34, keeps35, keeps40}
use Rattle.expansion_rules.proofs.KeptNames.{expansion_keeps21, driven_in_no_body}
use Rattle.expansion_rules.proofs.KeptSorts.{expansion_keeps22}

-- each rule that is kept as it is written
module _ (w : Program) (unbroken : IsUnbroken w) where
  kept20 : (at : Place) → ¬ rules.E20 w at
  kept20 at e = unbroken 20 at (inl (refl, e))

  kept21 : (at : Place) → ¬ rules.E21 w at
  kept21 at e = unbroken 21 at (inr (inl (refl, e)))

  kept22 : (at : Place) → ¬ rules.E22 w at
  kept22 at e = unbroken 22 at (inr (inr (inl (refl, e))))

  kept23 : (at : Place) → ¬ rules.E23 w at
  kept23 at e = unbroken 23 at (inr (inr (inr (inl (refl, e)))))

  kept24 : (at : Place) → ¬ rules.E24 w at
  kept24 at e = unbroken 24 at (inr (inr (inr (inr (inl (refl, e))))))

  kept25 : (at : Place) → ¬ rules.E25 w at
  kept25 at e = unbroken 25 at (inr (inr (inr (inr (inr (inl (refl, e)))))))

  kept26 : (at : Place) → ¬ rules.E26 w at
  kept26 at e = unbroken 26 at (inr (inr (inr (inr (inr (inr (inl (refl, e))))))))

  kept27 : (at : Place) → ¬ rules.E27 w at
  kept27 at e = unbroken 27 at (inr (inr (inr (inr (inr (inr (inr (inl (refl, e)))))))))

  kept28 : (at : Place) → ¬ rules.E28 w at
  kept28 at e = unbroken 28 at (inr (inr (inr (inr (inr (inr (inr (inr (inl (refl, e))))))))))

  kept29 : (at : Place) → ¬ rules.E29 w at
  kept29 at e = unbroken 29 at (inr (inr (inr (inr (inr (inr (inr (inr (inr (inl (refl, e)))))))))))

  kept30 : (at : Place) → ¬ rules.E30 w at
  kept30 at e = unbroken 30 at (inr (inr (inr (inr (inr (inr (inr (inr (inr (inr (inl (refl, e))))))))))))

  kept31 : (at : Place) → ¬ rules.E31 w at
  kept31 at e = unbroken 31 at (inr (inr (inr (inr (inr (inr (inr (inr (inr (inr (inr (inl (refl, e)))))))))))))

  kept32 : (at : Place) → ¬ rules.E32 w at
  kept32 at e = unbroken 32 at (inr (inr (inr (inr (inr (inr (inr (inr (inr (inr (inr (inr (inl (refl, e))))))))))))))

  kept33 : (at : Place) → ¬ rules.E33 w at
  kept33 at e = unbroken 33 at (inr (inr (inr (inr (inr (inr (inr (inr (inr (inr (inr (inr (inr (inl (refl, e)))))))))))))))

  kept34 : (at : Place) → ¬ rules.E34 w at
  kept34 at e = unbroken 34 at (inr (inr (inr (inr (inr (inr (inr (inr (inr (inr (inr (inr (inr (inr (inl (refl, e))))))))))))))))

  kept35 : (at : Place) → ¬ rules.E35 w at
  kept35 at e = unbroken 35 at (inr (inr (inr (inr (inr (inr (inr (inr (inr (inr (inr (inr (inr (inr (inr (inl (refl, e)))))))))))))))))

  kept36 : (at : Place) → ¬ rules.E36 w at
  kept36 at e = unbroken 36 at (inr (inr (inr (inr (inr (inr (inr (inr (inr (inr (inr (inr (inr (inr (inr (inr (inl (refl, e))))))))))))))))))

  kept37 : (at : Place) → ¬ rules.E37 w at
  kept37 at e = unbroken 37 at (inr (inr (inr (inr (inr (inr (inr (inr (inr (inr (inr (inr (inr (inr (inr (inr (inr (inl (refl, e)))))))))))))))))))

  kept38 : (at : Place) → ¬ rules.E38 w at
  kept38 at e = unbroken 38 at (inr (inr (inr (inr (inr (inr (inr (inr (inr (inr (inr (inr (inr (inr (inr (inr (inr (inr (inl (refl, e))))))))))))))))))))

  kept39 : (at : Place) → ¬ rules.E39 w at
  kept39 at e = unbroken 39 at (inr (inr (inr (inr (inr (inr (inr (inr (inr (inr (inr (inr (inr (inr (inr (inr (inr (inr (inr (inl (refl, e)))))))))))))))))))))

  kept40 : (at : Place) → ¬ rules.E40 w at
  kept40 at e = unbroken 40 at (inr (inr (inr (inr (inr (inr (inr (inr (inr (inr (inr (inr (inr (inr (inr (inr (inr (inr (inr (inr (inl (refl, e))))))))))))))))))))))

  kept41 : (at : Place) → ¬ rules.E41 w at
  kept41 at e = unbroken 41 at (inr (inr (inr (inr (inr (inr (inr (inr (inr (inr (inr (inr (inr (inr (inr (inr (inr (inr (inr (inr (inr (inl (refl, e)))))))))))))))))))))))

  kept42 : (at : Place) → ¬ rules.E42 w at
  kept42 at e = unbroken 42 at (inr (inr (inr (inr (inr (inr (inr (inr (inr (inr (inr (inr (inr (inr (inr (inr (inr (inr (inr (inr (inr (inr (inl (refl, e))))))))))))))))))))))))

  kept43 : (at : Place) → ¬ rules.E43 w at
  kept43 at e = unbroken 43 at (inr (inr (inr (inr (inr (inr (inr (inr (inr (inr (inr (inr (inr (inr (inr (inr (inr (inr (inr (inr (inr (inr (inr (inl (refl, e)))))))))))))))))))))))))

  kept44 : (at : Place) → ¬ rules.E44 w at
  kept44 at e = unbroken 44 at (inr (inr (inr (inr (inr (inr (inr (inr (inr (inr (inr (inr (inr (inr (inr (inr (inr (inr (inr (inr (inr (inr (inr (inr (inl (refl, e))))))))))))))))))))))))))

  kept45 : (at : Place) → ¬ rules.E45 w at
  kept45 at e = unbroken 45 at (inr (inr (inr (inr (inr (inr (inr (inr (inr (inr (inr (inr (inr (inr (inr (inr (inr (inr (inr (inr (inr (inr (inr (inr (inr ((refl, e)))))))))))))))))))))))))))

  lawful : IsLawfulProgram w
  lawful = uses_are_lawful w kept21 kept37

  module _ (p : plain.Program) (expands : IsExpansion w p) where
    light : (at : Place) → ¬ plain_rules.E44 p at
    light at (over, place) =
        kept44 at (subst (λ n. WEIGHT_LIMIT < n) (expansion_weighs w p lawful expands) over, place ∙ expands.place)

    few : (at : Place) → ¬ plain_rules.E45 p at
    few at (over, place) =
        kept45 at (subst (λ n. EXPR_LIMIT < n) (expansion_counts w p lawful expands) over, place ∙ expands.place)

    pub breaks_none : plain_breaking.IsUnbroken p
    breaks_none k at (inl (is, e)) = kept20 at (keeps20 w p expands at e)
    breaks_none k at (inr (inl (is, e))) = expansion_keeps21 w p lawful expands kept20 kept21 kept22 kept39 at e
    breaks_none k at (inr (inr (inl (is, e)))) = expansion_keeps22 w p lawful expands kept20 kept21 kept22 kept39 at e
    breaks_none k at (inr (inr (inr (inl (is, e))))) = expansion_keeps23 w p lawful expands kept23 kept24 at e
    breaks_none k at (inr (inr (inr (inr (inl (is, e)))))) = expansion_keeps24 w p lawful expands kept23 kept24 at e
    breaks_none k at (inr (inr (inr (inr (inr (inl (is, e))))))) = kept25 at (keeps25 w p expands at e)
    breaks_none k at (inr (inr (inr (inr (inr (inr (inl (is, e)))))))) = kept26 at (keeps26 w p expands at e)
    breaks_none k at (inr (inr (inr (inr (inr (inr (inr (inl (is, e))))))))) = kept27 at (keeps27 w p expands at e)
    breaks_none k at (inr (inr (inr (inr (inr (inr (inr (inr (inl (is, e)))))))))) = kept28 at (keeps28 w p expands at e)
    breaks_none k at (inr (inr (inr (inr (inr (inr (inr (inr (inr (inl (is, e))))))))))) = kept29 at (keeps29 w p expands at e)
    breaks_none k at (inr (inr (inr (inr (inr (inr (inr (inr (inr (inr (inl (is, e)))))))))))) = kept30 at (keeps30 w p expands at e)
    breaks_none k at (inr (inr (inr (inr (inr (inr (inr (inr (inr (inr (inr (inl (is, e))))))))))))) = kept31 at (keeps31 w p expands at e)
    breaks_none k at (inr (inr (inr (inr (inr (inr (inr (inr (inr (inr (inr (inr (inl (is, e)))))))))))))) = kept32 at (keeps32 w p expands at e)
    breaks_none k at (inr (inr (inr (inr (inr (inr (inr (inr (inr (inr (inr (inr (inr (inl (is, e))))))))))))))) = expansion_keeps33 w p lawful expands (driven_in_no_body w p lawful expands kept20 kept21 kept22 kept39) kept33 at e
    breaks_none k at (inr (inr (inr (inr (inr (inr (inr (inr (inr (inr (inr (inr (inr (inr (inl (is, e)))))))))))))))) = kept34 at (keeps34 w p expands at e)
    breaks_none k at (inr (inr (inr (inr (inr (inr (inr (inr (inr (inr (inr (inr (inr (inr (inr (inl (is, e))))))))))))))))) = kept35 at (keeps35 w p expands at e)
    breaks_none k at (inr (inr (inr (inr (inr (inr (inr (inr (inr (inr (inr (inr (inr (inr (inr (inr (inl (is, e)))))))))))))))))) = kept36 at (keeps36 w p expands at e)
    breaks_none k at (inr (inr (inr (inr (inr (inr (inr (inr (inr (inr (inr (inr (inr (inr (inr (inr (inr (inl (is, e))))))))))))))))))) = kept40 at (keeps40 w p expands at e)
    breaks_none k at (inr (inr (inr (inr (inr (inr (inr (inr (inr (inr (inr (inr (inr (inr (inr (inr (inr (inr (inl (is, e)))))))))))))))))))) = kept41 at (keeps41 w p expands at e)
    breaks_none k at (inr (inr (inr (inr (inr (inr (inr (inr (inr (inr (inr (inr (inr (inr (inr (inr (inr (inr (inr (inl (is, e))))))))))))))))))))) = kept42 at (keeps42 w p expands at e)
    breaks_none k at (inr (inr (inr (inr (inr (inr (inr (inr (inr (inr (inr (inr (inr (inr (inr (inr (inr (inr (inr (inr (inl (is, e)))))))))))))))))))))) = kept43 at (keeps43 w p expands at e)
    breaks_none k at (inr (inr (inr (inr (inr (inr (inr (inr (inr (inr (inr (inr (inr (inr (inr (inr (inr (inr (inr (inr (inr (inl (is, e))))))))))))))))))))))) = light at e
    breaks_none k at (inr (inr (inr (inr (inr (inr (inr (inr (inr (inr (inr (inr (inr (inr (inr (inr (inr (inr (inr (inr (inr (inr ((is, e)))))))))))))))))))))))) = few at e

  -- the expansion exists
  pub unbroken_expansion : (p : plain.Program) × IsExpansion w p × plain_breaking.IsUnbroken p
  unbroken_expansion =
      let light : weight w ≤ WEIGHT_LIMIT = elim (cases_lt WEIGHT_LIMIT (weight w)) [
        | inl over ↦ absurd (kept44 w.place (over, refl))
        | inr within ↦ within
      ] in
      let (p, expands) = expansion_exists w lawful light in (p, expands, breaks_none p expands)
