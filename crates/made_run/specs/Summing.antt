-- A circuit that adds up what it shows: what callers see of it, and its steps.
use Rattle.std.specs.Prelude.{◌≡◌, ℕ, ◌+◌, ◌%◌, ◌^◌, List, Bool, true, false, if◌then◌else◌}
use Rattle.mp_base.specs.declared.value.Trit.{Trit}
use Rattle.mp_base.specs.declared.value.Trit.TheVariants.{X}
use Rattle.mp_base.specs.declared.pad.Pads.{Pads}
use Rattle.switch_net.specs.Values.{value_at}
use Rattle.clock_run.specs.Circuit.{Running}
use Rattle.clock_run.specs.Device.{CircuitSteps}
use Rattle.settled_sum.specs.Sum.{first_number}

-- a circuit, whether it has run a clock, and a sum
pub record Summed : Type 0 where
  pub circuit : Running
  pub begun : Bool
  pub sum : ℕ

-- a circuit with these pads that has run no clock: all of its nodes are X
pub record IsFresh (known : Pads) (s : Summed) : Type 0 where
  pub pads : (s.circuit).pads ≡ known
  pub unknown : value_at (s.circuit).values ≡ (λ node. X)
  pub begun : s.begun ≡ false
  pub sum : s.sum ≡ 0

-- one clock: the first adds nothing
pub record SummingSteps (before : Summed) (inputs : List ℕ) (shown : List (List Trit)) (after : Summed) : Type 0 where
  pub circuit : CircuitSteps before.circuit inputs shown after.circuit
  pub begun : after.begun ≡ true
  pub sum : after.sum ≡ (if before.begun then (before.sum + first_number shown) % 2 ^ 64 else before.sum)
