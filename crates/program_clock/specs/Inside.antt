-- The fields of a clockwork.
use Rattle.std.specs.Prelude.{◌≡◌, length}
use Rattle.mp_program.specs.State.{IsState, zero_state}
use Rattle.form_effects.specs.Linked.{AreLinks}
use Rattle.program_clock.specs.declared.clockwork.Clockwork.TheInside.{Inside}
use Rattle.program_clock.specs.Remembered.{state_of}
use Rattle.program_clock.specs.Settled.{IsBare, IsSteady}
use Rattle.program_clock.specs.Running.{Running}

abbrev pub running_of : Inside → Running
running_of c = record { program = c.program.now; state = state_of c.memory }

pub record IsReady (c : Inside) : Type 0 where
  pub linked : AreLinks c.program.now c.links
  pub start : IsState c.program.now (zero_state c.program.now)
  pub state : IsState c.program.now (state_of c.memory)
  pub places : length c.places.items ≡ length c.program.now.processes
  pub bare : IsBare (c.program.now).defs c.memory.stored.items
  pub steady : IsSteady (c.program.now).defs c.env.items
  pub env : length c.env.items ≡ length c.program.now.defs
