-- The steps of a circuit.
use Rattle.std.specs.Prelude.{◌≡◌, ℕ, List, length}
use Rattle.mp_base.specs.declared.value.Trit.{Trit}
use Rattle.switch_net.specs.Values.{value_at}
use Rattle.switch_net.specs.Clock.{IsClock}
use Rattle.clock_run.specs.Circuit.{Running}

-- one clock, after which there is a value for each node again
pub record CircuitSteps (before : Running) (inputs : List ℕ) (shown : List (List Trit)) (after : Running) : Type 0 where
  pub network : after.network ≡ before.network
  pub pads : after.pads ≡ before.pads
  pub sized : length after.values ≡ (before.network).nodes
  pub clock : IsClock before.network before.pads inputs (value_at before.values) shown (value_at after.values)
