-- What is traced of a program along a stimulus, and the world in which it is printed.
use Rattle.std.specs.Prelude.{◌≡◌, ℕ, List, [], Option}
use Rattle.mp_program.specs.declared.program.Program.{Program}
use Rattle.mp_program.specs.State.{State, zero_state}
use Rattle.stimulus.specs.declared.given.Stimulus.{Stimulus}
use Rattle.trace_run.specs.Transcript.{IsTranscript}
use Rattle.outcome.specs.World.{World}

-- no file, and the text is the program's transcript along the stimulus, from its zero state
pub record Traces (program : Program) (given : Stimulus) (chip text : List ℕ) : Type 0 where
  pub none : chip ≡ []
  pub end : State
  pub transcript : IsTranscript program given (zero_state program) end text

-- the world that has this output, and else is as it was
abbrev pub beside : {O : Type 0} → World → (O → Option (List ℕ)) → (O → ℕ) → O → World
beside rest text prints out = record rest { text = text out; prints = prints out }
