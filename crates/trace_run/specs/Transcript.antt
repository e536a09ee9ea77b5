-- The transcript of a program along a stimulus.
use Rattle.std.specs.Prelude.{◌≡◌, ℕ, List}
use Rattle.mp_base.specs.declared.value.Trit.{Trit}
use Rattle.mp_base.specs.declared.pad.Pad.{Pad}
use Rattle.mp_program.specs.declared.program.Program.{Program}
use Rattle.mp_program.specs.State.{State}
use Rattle.mp_program.specs.Trace.{IsClock}
use Rattle.stimulus.specs.declared.given.Stimulus.{Stimulus}
use Rattle.mp_base.specs.PadBits.{value_bits}
use Rattle.transcript.specs.Transcript as transcripts

-- one clock of the program, in which these output pads show the bits of their values
pub record ProgramSteps (p : Program) (pads : List Pad) (before : State) (inputs : List ℕ) (shown : List (List Trit))
    (after : State) : Type 0 where
  pub outputs : List ℕ
  pub clock : IsClock p before inputs outputs after
  pub bits : shown ≡ value_bits pads outputs

-- along the stimulus the program goes from this state before to that after, and this is the transcript
abbrev pub IsTranscript : Program → Stimulus → State → State → List ℕ → Type 0
IsTranscript p given = transcripts.IsTranscript (ProgramSteps p (given.pads).outputs) given
