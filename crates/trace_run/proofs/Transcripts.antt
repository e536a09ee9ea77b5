-- Runs of a program, as traces whose values are shown as bits.
use Rattle.std.proofs.Common.{◌≡◌, ◌∙◌, ℕ, List, [], ◌∷◌, Option, Result, map, drop, refl, ap, subst}
use Rattle.mp_base.specs.declared.value.Trit.{Trit}
use Rattle.mp_base.specs.declared.pad.Pad.{Pad}
use Rattle.mp_base.specs.declared.pad.Pads.{Pads}
use Rattle.mp_program.specs.declared.program.Program.{Program}
use Rattle.mp_program.specs.State.{State, IsState}
use Rattle.mp_program.specs.Trace.{IsTraceFrom}
use Rattle.stimulus.specs.declared.given.Stimulus.{Stimulus}
use Rattle.mp_base.specs.PadBits.{value_bits}
use Rattle.stimulus.specs.Inputs.{inputs_of}
use Rattle.stimulus.specs.Transcript.{lines_text}
use Rattle.transcript.specs.Transcript.{RunsAlong}
use Rattle.transcript.specs.Running.{PrintsClocks, PrintsTranscript}
use Rattle.transcript.proofs.Transcripts.{runs_keep, prints_as, completes}
use Rattle.trace_run.specs.Source.{Sourcing, SourceSteps}
use Rattle.trace_run.specs.Transcript.{ProgramSteps, IsTranscript}
use Rattle.trace_run.specs.Laws.{IsTraceTo, TraceExists, StatesLast}

module _ (p : Program) (pads : List Pad) where
  pub trace_runs : (st after : State) (is os : List (List ℕ)) → IsTraceTo p st is os after
      → RunsAlong (ProgramSteps p pads) st is (map (value_bits pads) os) after
  trace_runs st after [] [] h = h
  trace_runs st after [] (o ∷ os) h = absurd h
  trace_runs st after (i ∷ is) [] h = absurd h
  trace_runs st after (i ∷ is) (o ∷ os) h =
      (h.0, record { outputs = o; clock = h.1; bits = refl }, trace_runs h.0 after is os h.2)

  pub run_traces : (st after : State) (is : List (List ℕ)) (shown : List (List (List Trit)))
      → RunsAlong (ProgramSteps p pads) st is shown after
      → (os : List (List ℕ)) × IsTraceTo p st is os after × (shown ≡ map (value_bits pads) os)
  run_traces st after [] [] h = ([], h, refl)
  run_traces st after [] (o ∷ os) h = absurd h
  run_traces st after (i ∷ is) [] h = absurd h
  run_traces st after (i ∷ is) (o ∷ os) h =
      let step : ProgramSteps p pads st i o h.0 = h.1 in
      let rest = run_traces h.0 after is os h.2 in (
        step.outputs ∷ rest.0,
        (h.0, step.clock, rest.1),
        ap (λ x. x ∷ os) step.bits ∙ ap
            (λ xs. value_bits pads step.outputs ∷ xs) rest.2,
      )

  -- a run ends in a state of the program
  pub states_last_along : StatesLast p → (st after : State) (is : List (List ℕ)) (shown : List (List (List Trit)))
      → IsState p st
      → RunsAlong (ProgramSteps p pads) st is shown after → IsState p after
  states_last_along last st after is shown state h =
      let P : State → Type 0 = IsState p in
      runs_keep (ProgramSteps p pads) P
      (λ s t i o is_state step. last s t i step.outputs is_state step.clock) st after is shown state h

-- a trace to some state is a trace
trace_from : (p : Program) (st after : State) (is os : List (List ℕ)) → IsTraceTo p st is os after
    → IsTraceFrom p st is os
trace_from p st after [] [] h = tt
trace_from p st after [] (o ∷ os) h = absurd h
trace_from p st after (i ∷ is) [] h = absurd h
trace_from p st after (i ∷ is) (o ∷ os) h = (h.0, h.1, trace_from p h.0 after is os h.2)

-- a transcript shows a trace, value by value
pub transcript_shows : (p : Program) (given : Stimulus) (st after : State) (text : List ℕ)
    → IsTranscript p given st after text
    → (os : List (List ℕ)) × IsTraceFrom p st (inputs_of given) os
    × (text ≡ lines_text 0 (given.pads).outputs (map (value_bits (given.pads).outputs) os))
transcript_shows p given st after text t =
    let trace = run_traces p (given.pads).outputs st after (inputs_of given) t.shown t.runs in (
      trace.0,
      trace_from p st after (inputs_of given) trace.0 trace.1,
      t.lines ∙ ap
          (lines_text 0 (given.pads).outputs) trace.2,
    )

-- the program stays the same
pub program_kept : (before after : Sourcing) (is : List (List ℕ)) (shown : List (List (List Trit)))
    → RunsAlong SourceSteps before is shown after
    → after.program ≡ before.program
program_kept before after is shown h =
    runs_keep SourceSteps (λ (s : Sourcing). s.program ≡ before.program)
    (λ s t i o same step. step.program ∙ same) before after is shown refl h

-- a step of a source is one of its program
source_step : (p : Program) (pads : Pads) (s t : Sourcing) (i : List ℕ) (o : List (List Trit))
    → (s.program ≡ p) × (s.pads ≡ pads)
    → SourceSteps s i o t → ((t.program ≡ p) × (t.pads ≡ pads)) × ProgramSteps p pads.outputs s.state i o t.state
source_step p pads s t i o same step =
    let Q : Program → Type 0 = λ q. ProgramSteps q (s.pads).outputs s.state i o t.state in
    let R : Pads → Type 0 = λ ps. ProgramSteps p ps.outputs s.state i o t.state in
    ((step.program ∙ same.0, step.pads ∙ same.1), subst R same.1 (subst Q same.0 step.clock))

-- what the run of a source prints is of a transcript of its program
pub prints_transcript : {T E : Type 0} (given : Stimulus) (before after : Sourcing) (x y : Option (List ℕ))
    (r : Result T E)
    → before.pads ≡ given.pads → StatesLast before.program → TraceExists before.program
    → IsState before.program before.state
    → PrintsClocks SourceSteps given before after x y r
    → PrintsTranscript (ProgramSteps before.program (given.pads).outputs) given before.state after.state x y r
prints_transcript given before after x y r same last exist state c =
    let p = before.program in
    let pads = (given.pads).outputs in
    let Steps : State → List ℕ → List (List Trit) → State → Type 0 = ProgramSteps p pads in
    let P : Sourcing → Type 0 = λ s. (s.program ≡ p) × (s.pads ≡ given.pads) in
    let prints : PrintsClocks Steps given before.state after.state x y r =
    prints_as SourceSteps Steps (λ s. s.state) P (source_step p given.pads) given before after x y r (refl, same) c in
    let ends : IsState p after.state =
    states_last_along p pads last before.state after.state _ prints.shown state prints.runs in
    completes Steps given before.state after.state x y r (λ k.
    let later = drop k (inputs_of given) in
    let trace = exist after.state later ends in
    (map (value_bits pads) trace.0, trace.1, trace_runs p pads after.state trace.1 later trace.0 trace.2)) prints
