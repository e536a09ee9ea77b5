-- What callers see of a tracer, and what it holds.
use Rattle.std.specs.Prelude.{◌≡◌, ◌<◌, ◌^◌, length}
use Rattle.mp_program.specs.declared.program.Program.{Program}
use Rattle.mp_program.specs.State.{State}
use Rattle.stimulus.specs.declared.given.Stimulus.{Stimulus}
use Rattle.transcript.specs.declared.room.Room.{Room}
use Rattle.transcript.specs.Running.{HasRoom}
use Rattle.trace_run.specs.Source.{Sourcing}

-- a program, the stimulus that it runs along, and the state that it is in
pub record Tracing : Type 0 where
  pub program : Program
  pub given : Stimulus
  pub state : State

-- the source has the stimulus's pads, and there is room for what a clock gives and shows
pub record IsReady (source : Sourcing) (given : Stimulus) (room : Room) : Type 0 where
  pub pads : source.pads ≡ given.pads
  pub has_room : HasRoom given.pads room
  pub few_inputs : length (given.pads).inputs < 2 ^ 32
  pub few_clocks : length given.clocks < 2 ^ 32
