-- The lines of two clocks, and the inputs of one.
use Rattle.std.proofs.Common.{◌≡◌, [], ◌∷◌, ◌++◌, refl, codes, arith}
use Rattle.std.specs.Fmt.{digits}
use Rattle.mp_base.specs.declared.value.Trit.TheVariants.{Zero, One, X}
use Rattle.stimulus.specs.Inputs.{inputs_at}
use Rattle.stimulus.specs.Transcript.{lines_text}

-- a word whose lowest bit stands first, and a bit of it that is unknown
two_lines : lines_text 0 (record { name = codes "q"; width = 3; narrow = omega arith } ∷ [])
    (((Zero ∷ One ∷ One ∷ []) ∷ []) ∷ ((One ∷ X ∷ Zero ∷ []) ∷ []) ∷ [])
    ≡ codes "0 q=6\n" ++ codes "1 q=X\n"
unfolding digits
two_lines = refl

-- an input that no line names is 0
inputs : inputs_at 2 (record { input = 1; value = 1 } ∷ []) ≡ 0 ∷ 1 ∷ []
inputs = refl
