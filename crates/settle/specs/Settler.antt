-- What callers see of a settler.
use Rattle.std.specs.Prelude.{List}
use Rattle.mp_base.specs.declared.value.Trit.{Trit}
use Rattle.switch_net.specs.declared.network.Network.{Network}

-- a network and the value of each node
pub record Settling : Type 0 where
  pub network : Network
  pub values : List Trit
