-- A program as a device: what callers see of it, what it holds, and its steps.
use Rattle.std.specs.Prelude.{◌≡◌, ℕ, List, length}
use Rattle.mp_base.specs.declared.value.Trit.{Trit}
use Rattle.mp_base.specs.declared.pad.Pads.{Pads}
use Rattle.mp_program.specs.declared.program.Program.{Program}
use Rattle.mp_program.specs.Pads.{ArePadsOf}
use Rattle.mp_program.specs.State.{State, IsState}
use Rattle.mp_fitting.specs.Fitting.{StateFits}
use Rattle.program_clock.specs.Running.{Running}
use Rattle.trace_run.specs.Transcript.{ProgramSteps}

-- a program, its pads, and the state that it is in
pub record Sourcing : Type 0 where
  pub program : Program
  pub pads : Pads
  pub state : State

-- a machine of the program is in a state that fits it, and there is room for what a clock shows
pub record IsReady (p : Program) (machine : Running) (pads : Pads) (values : List ℕ) : Type 0 where
  pub program : machine.program ≡ p
  pub state : IsState p machine.state
  pub fits : StateFits p machine.state
  pub padded : ArePadsOf p pads
  pub room : length values ≡ length pads.outputs

-- one clock
pub record SourceSteps (before : Sourcing) (inputs : List ℕ) (shown : List (List Trit))
    (after : Sourcing) : Type 0 where
  pub program : after.program ≡ before.program
  pub pads : after.pads ≡ before.pads
  pub clock : ProgramSteps before.program (before.pads).outputs before.state inputs shown after.state
