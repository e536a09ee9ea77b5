-- What an output shows in the settled clocks, added up.
use Rattle.std.specs.Prelude.{◌≡◌, ℕ, ◌<◌, ◌%◌, ◌^◌, List, [], length, drop, sum, slice_index, slice_index_or}
use Rattle.std.specs.List.{sum_by}
use Rattle.mp_base.specs.declared.value.Trit.{Trit}
use Rattle.mp_program.specs.declared.program.Program.{Program}
use Rattle.mp_program.specs.Trace.{IsSettled}
use Rattle.stimulus.specs.Transcript.{number_of}

-- The sum of the first output's values in the settled clocks, modulo 2^64: no other clock adds anything.
pub record IsSettledSum (p : Program) (inputs outputs : List (List ℕ)) (total : ℕ) : Type 0 where
  pub addends : List ℕ
  pub as_many : length addends ≡ length outputs
  pub settled : (k : ℕ) → k < length outputs → IsSettled p inputs k
      → slice_index addends k ≡ slice_index (slice_index_or outputs k []) 0
  pub unsettled : (k : ℕ) → k < length outputs → ¬ IsSettled p inputs k → slice_index addends k ≡ 0
  pub total_is : total ≡ sum addends % 2 ^ 64

-- the number that the first output shows in a clock, of which an unknown bit counts nothing
abbrev pub first_number : List (List Trit) → ℕ
first_number shown = number_of (slice_index_or shown 0 [])

-- the sum of these numbers in all clocks but the first, modulo 2^64
abbrev pub sum_shown : List (List (List Trit)) → ℕ
sum_shown shown = sum_by first_number (drop 1 shown) % 2 ^ 64
