-- The line of a verdict.
use Rattle.std.specs.Prelude.{ℕ, ℤ, List, [], ◌∷◌, ◌++◌, codes, decimal}
use Rattle.std.specs.Fmt.{signed_decimal}
use Rattle.design_rules.specs.declared.judging.Verdict.{Verdict}
use Rattle.design_rules.specs.declared.judging.Verdict.TheVariants.{Clean, Breach}

-- `breach RULE at X Y` and a line feed
abbrev pub breach_line : ℕ → ℤ → ℤ → List ℕ
breach_line rule x y =
    codes "breach " ++ decimal rule ++ codes " at " ++ signed_decimal x ++ codes " " ++ signed_decimal y ++ 10 ∷ []

abbrev pub verdict_line : Verdict → List ℕ
verdict_line Clean = codes "clean" ++ 10 ∷ []
verdict_line (Breach rule x y) = breach_line rule x y
