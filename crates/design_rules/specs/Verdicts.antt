-- What a verdict says.
use Rattle.std.specs.Prelude.{ℤ}
use Rattle.lam_geom.specs.declared.layer.Layer.{Layer}
use Rattle.lam_geom.specs.Rules.{IsClean, IsFirstBreach}
use Rattle.design_rules.specs.declared.judging.Verdict.{Verdict}
use Rattle.design_rules.specs.declared.judging.Verdict.TheVariants.{Clean, Breach}

-- no rule is broken, or this one first, at its least square
abbrev pub IsVerdict : (Layer → ℤ → ℤ → Type 0) → Verdict → Type 0
IsVerdict covers Clean = IsClean covers
IsVerdict covers (Breach rule x y) = IsFirstBreach covers rule x y
