-- What a stimulus gives its inputs.
use Rattle.std.specs.Prelude.{ℕ, zero, suc, List, [], ◌∷◌, Bool, true, cond, not, ◌&&◌, ◌==◌, nat_lt}
use Rattle.std.specs.List.{list_any, list_all}
use Rattle.mp_base.specs.declared.pad.Pad.{Pad}
use Rattle.stimulus.specs.declared.given.Given.{Given}
use Rattle.stimulus.specs.Rules.{bound}

-- what the values of the pad at a place are below; no pad stands past the end
abbrev pub bound_at : List Pad → ℕ → ℕ
bound_at [] i = 0
bound_at (p ∷ ps) zero = bound p
bound_at (p ∷ ps) (suc i) = bound_at ps i

-- the input is one of these pads, and the value fits it
abbrev pub is_fitting : List Pad → Given → Bool
is_fitting inputs g = nat_lt g.value (bound_at inputs g.input)

-- each value fits, and no input comes twice
abbrev pub is_fitting_clock : List Pad → List Given → Bool
is_fitting_clock inputs [] = true
is_fitting_clock inputs (g ∷ gs) =
    is_fitting inputs g && (not (list_any (λ (h : Given). h.input == g.input) gs) && is_fitting_clock inputs gs)

-- so it is in each clock
abbrev pub are_fitting : List Pad → List (List Given) → Bool
are_fitting inputs clocks = list_all (is_fitting_clock inputs) clocks

-- the value that a clock gives an input, or 0
abbrev pub value_given : List Given → ℕ → ℕ
value_given [] i = 0
value_given (g ∷ gs) i = cond (g.input == i) g.value (value_given gs i)
