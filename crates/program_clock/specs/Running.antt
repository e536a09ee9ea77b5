-- What contracts see of a program that runs.
use Rattle.mp_program.specs.declared.program.Program.{Program}
use Rattle.mp_program.specs.State.{State}

-- a program, and the state that it is in
pub record Running : Type 0 where
  pub program : Program
  pub state : State
