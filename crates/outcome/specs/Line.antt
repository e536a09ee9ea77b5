-- The line that tells a broken rule.
use Rattle.std.specs.Prelude.{ℕ, List, [], ◌∷◌, ◌++◌, codes, decimal}
use Rattle.mp_base.specs.declared.refusal.Family.{Family}
use Rattle.mp_base.specs.declared.refusal.Family.TheVariants.{E, S, C, F, N, B, L, P}
use Rattle.mp_base.specs.declared.refusal.Spot.{Spot}
use Rattle.mp_base.specs.declared.refusal.Spot.TheVariants.{At, Offset, Named, Nowhere}
use Rattle.mp_base.specs.declared.refusal.Broken.{Broken}

abbrev pub letter_of : Family → List ℕ
letter_of E = codes "E"
letter_of S = codes "S"
letter_of C = codes "C"
letter_of F = codes "F"
letter_of N = codes "N"
letter_of B = codes "B"
letter_of L = codes "L"
letter_of P = codes "P"

abbrev pub spot_text : Spot → List ℕ
spot_text (At place) = codes " at " ++ decimal place.offset ++ codes " line " ++ decimal place.line ++ codes " column "
    ++ decimal place.column
spot_text (Offset offset) = codes " at " ++ decimal offset
spot_text (Named name) = 32 ∷ name
spot_text Nowhere = []

-- such as `error E2 at 0 line 1 column 1` and a line feed
abbrev pub line_of : Broken → List ℕ
line_of broken = codes "error " ++ letter_of broken.rule.family ++ decimal broken.rule.number ++ spot_text broken.spot
    ++ 10 ∷ []
