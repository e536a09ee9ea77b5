-- What a made stimulus gives.
use Rattle.std.specs.Prelude.{◌≡◌, ℕ, ◌+◌, ◌*◌, List, [], ◌∷◌, map, codes}
use Rattle.std.specs.List.{range_with_len}
use Rattle.mp_base.specs.declared.pad.Pad.{Pad}
use Rattle.stimulus.specs.declared.given.Given.{Given}
use Rattle.program_maker.specs.Draws.{after, draw}

-- the inputs of a made source: `reset`, and two words of 16 bits
pub record AreMadeInputs (inputs : List Pad) : Type 0 where
  pub names : map (λ (p : Pad). p.name) inputs ≡ codes "reset" ∷ codes "a" ∷ codes "b" ∷ []
  pub widths : map (λ (p : Pad). p.width) inputs ≡ 0 ∷ 16 ∷ 16 ∷ []

abbrev pub reset_clock : List Given
reset_clock = record { input = 0; value = 1 } ∷ []

abbrev pub word_clock : ℕ → ℕ → List Given
word_clock a b = record { input = 1; value = a } ∷ record { input = 2; value = b } ∷ []

-- clock k behind the reset, drawn from a state
abbrev pub drawn_word_clock : ℕ → ℕ → List Given
drawn_word_clock seed k = word_clock (draw seed (2 * k) 65536) (draw seed (2 * k + 1) 65536)

-- a reset, and 64 clocks
abbrev pub made_clocks : ℕ → List (List Given)
made_clocks seed = reset_clock ∷ map (drawn_word_clock (after seed 36)) (range_with_len 0 64)
