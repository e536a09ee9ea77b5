-- What holds of sums.
use Rattle.std.specs.Prelude.{◌≡◌, ℕ, suc, ◌<◌, List, [], length, slice_index_or}
use Rattle.mp_base.specs.declared.value.Trit.{Trit}
use Rattle.mp_program.specs.declared.program.Program.{Program}
use Rattle.mp_program.specs.Pads.{ArePadsOf}
use Rattle.mp_program.specs.Trace.{IsTrace, IsSettled}
use Rattle.stimulus.specs.declared.given.Stimulus.{Stimulus}
use Rattle.mp_base.specs.PadBits.{value_bits}
use Rattle.stimulus.specs.Inputs.{inputs_of}
use Rattle.settled_sum.specs.Sum.{IsSettledSum, sum_shown}

-- all clocks but the first are settled
pub record SettlesBehindFirst (p : Program) (inputs : List (List ℕ)) : Type 0 where
  pub first : ¬ IsSettled p inputs 0
  pub later : (k : ℕ) → IsSettled p inputs (suc k)

-- what is shown in the settled clocks are the bits of the values of a trace of the program along the stimulus
pub record ShowsTrace (p : Program) (given : Stimulus) (shown : List (List (List Trit)))
    (outputs : List (List ℕ)) : Type 0 where
  pub trace : IsTrace p (inputs_of given) outputs
  pub as_many : length shown ≡ length outputs
  pub agrees : (k : ℕ) → k < length shown → IsSettled p (inputs_of given) k
      → slice_index_or shown k [] ≡ value_bits (given.pads).outputs (slice_index_or outputs k [])

-- Where all clocks but the first are settled, what is shown behind the first adds up to the sum of the settled clocks.
abbrev pub SumsSettle : Program → Type 0
SumsSettle p =
    (given : Stimulus) (shown : List (List (List Trit))) (outputs : List (List ℕ)) → ArePadsOf p given.pads
    → 0 < length (given.pads).outputs → 0 < length given.clocks → SettlesBehindFirst p (inputs_of given)
    → ShowsTrace p given shown outputs → IsSettledSum p (inputs_of given) outputs (sum_shown shown)

-- whatever is shown, it has a sum
abbrev pub SumExists : Type 0
SumExists = (p : Program) (inputs outputs : List (List ℕ)) → (total : ℕ) × IsSettledSum p inputs outputs total

-- and no other
abbrev pub SumOnce : Type 0
SumOnce = (p : Program) (inputs outputs : List (List ℕ)) (a b : ℕ) → IsSettledSum p inputs outputs a
    → IsSettledSum p inputs outputs b → a ≡ b
