-- The inputs that a stimulus gives, clock by clock.
use Rattle.std.specs.Prelude.{ℕ, List, length, map}
use Rattle.std.specs.List.{range_with_len}
use Rattle.stimulus.specs.declared.given.Given.{Given}
use Rattle.stimulus.specs.declared.given.Stimulus.{Stimulus}
use Rattle.stimulus.specs.Fitting.{value_given}

-- what a clock gives n inputs
abbrev pub inputs_at : ℕ → List Given → List ℕ
inputs_at n givens = map (value_given givens) (range_with_len 0 n)

-- what a stimulus gives its input pads in each clock
abbrev pub inputs_of : Stimulus → List (List ℕ)
inputs_of given = map (inputs_at (length (given.pads).inputs)) given.clocks
