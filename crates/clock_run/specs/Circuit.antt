-- What callers see of a circuit, and what it holds.
use Rattle.std.specs.Prelude.{◌≡◌, List, Option, length}
use Rattle.mp_base.specs.declared.value.Trit.{Trit}
use Rattle.mp_base.specs.declared.pad.Pads.{Pads}
use Rattle.switch_net.specs.declared.network.Network.{Network}
use Rattle.clock_run.specs.declared.plan.Plan.{Plan}
use Rattle.clock_run.specs.Plan.{IsPlan}

-- a network with pads, and the value of each node
pub record Running : Type 0 where
  pub network : Network
  pub pads : Pads
  pub values : List Trit

-- the plan is one of the network with its pads, and there is room for what drives each node
pub record IsReady (net : Network) (pads : Pads) (plan : Plan) (drive : List (Option Trit)) : Type 0 where
  pub planned : IsPlan net pads plan.supplies plan.inputs plan.outputs
  pub sized : length drive ≡ net.nodes
