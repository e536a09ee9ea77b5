-- What holds of every transcript, and of every clock.
use Rattle.std.specs.Prelude.{◌≡◌, ℕ, List, [], ◌∷◌}
use Rattle.mp_program.specs.declared.program.Program.{Program}
use Rattle.mp_program.specs.Pads.{input_pads, output_pads, FitsPads}
use Rattle.mp_program.specs.State.{State, IsState}
use Rattle.mp_program.specs.Trace.{IsClock}
use Rattle.mp_fitting.specs.Fitting.{StateFits}
use Rattle.stimulus.specs.declared.given.Stimulus.{Stimulus}
use Rattle.trace_run.specs.Transcript.{IsTranscript}

-- a program has a transcript along a stimulus from each of its states
abbrev pub TranscriptExists : Program → Type 0
TranscriptExists p =
    (given : Stimulus) (before : State) → IsState p before → (after : State) ×
    (text : List ℕ) × IsTranscript p given before after text

-- the transcript, and the state after, are determined
abbrev pub TranscriptOnce : Program → Type 0
TranscriptOnce p =
    (given : Stimulus) (before v w : State)
    (text other : List ℕ) → IsState p before → IsTranscript p given before v text
    → IsTranscript p given before w other
    → (text ≡ other) × (v ≡ w)

-- from this state, clocks with these inputs show these outputs and end in that state
abbrev pub IsTraceTo : Program → State → List (List ℕ) → List (List ℕ) → State → Type 0
IsTraceTo p st [] [] after = after ≡ st
IsTraceTo p st [] (o ∷ os) after = ⊥
IsTraceTo p st (i ∷ is) [] after = ⊥
IsTraceTo p st (i ∷ is) (o ∷ os) after = (next : State) × IsClock p st i o next × IsTraceTo p next is os after

-- inputs have a trace from each state of the program
abbrev pub TraceExists : Program → Type 0
TraceExists p =
    (st : State) (inputs : List (List ℕ)) → IsState p st
    → (outputs : List (List ℕ)) × (after : State) × IsTraceTo p st inputs outputs after

-- the trace, and the state after, are determined
abbrev pub TraceOnce : Program → Type 0
TraceOnce p =
    (st v w : State) (inputs outputs other : List (List ℕ)) → IsState p st → IsTraceTo p st inputs outputs v
    → IsTraceTo p st inputs other w
    → (outputs ≡ other) × (v ≡ w)

-- a clock ends in a state of the program
abbrev pub StatesLast : Program → Type 0
StatesLast p =
    (st after : State) (inputs outputs : List ℕ) → IsState p st → IsClock p st inputs outputs after → IsState p after

-- where the state and what a clock is given fit the program, so do what it shows and the next state
abbrev pub ClocksFit : Program → Type 0
ClocksFit p =
    (st after : State) (inputs outputs : List ℕ) → IsState p st → StateFits p st → FitsPads (input_pads p) inputs
    → IsClock p st inputs outputs after
    → FitsPads (output_pads p) outputs × StateFits p after
