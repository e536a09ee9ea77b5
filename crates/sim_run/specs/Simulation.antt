-- What callers see of a simulation, and what it holds.
use Rattle.std.specs.Prelude.{◌≡◌, ◌<◌, ◌^◌, List, length}
use Rattle.mp_base.specs.declared.value.Trit.{Trit}
use Rattle.switch_net.specs.declared.network.Network.{Network}
use Rattle.switch_net.specs.Breaks.{HasPads}
use Rattle.stimulus.specs.declared.given.Stimulus.{Stimulus}
use Rattle.transcript.specs.declared.room.Room.{Room}
use Rattle.transcript.specs.Running.{HasRoom}
use Rattle.clock_run.specs.Circuit.{Running}

-- a network, the stimulus that it runs along, and the value of each node
pub record Simulating : Type 0 where
  pub network : Network
  pub given : Stimulus
  pub values : List Trit

-- the circuit has the stimulus's pads, each of them on the network, and there is room for what a clock gives and shows
pub record IsReady (circuit : Running) (given : Stimulus) (room : Room) : Type 0 where
  pub pads : circuit.pads ≡ given.pads
  pub has_pads : HasPads circuit.network given.pads
  pub has_room : HasRoom given.pads room
  pub few_inputs : length (given.pads).inputs < 2 ^ 32
  pub few_clocks : length given.clocks < 2 ^ 32
