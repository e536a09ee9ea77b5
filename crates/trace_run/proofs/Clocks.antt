-- Clocks and traces of a program, by the laws of its meaning.
use Rattle.std.proofs.Common.{◌≡◌, ◌∙◌, ℕ, List, [], ◌∷◌, refl, sym, ap, subst}
use Rattle.mp_program.specs.declared.program.Program.{Program}
use Rattle.mp_program.specs.Pads.{input_pads, output_pads, FitsPads}
use Rattle.mp_program.specs.Environment.{IsEnvironment}
use Rattle.mp_program.specs.State.{State, IsState}
use Rattle.mp_program.specs.Step.{next_state, outputs_of}
use Rattle.mp_program.specs.Trace.{IsClock, IsTraceFrom}
use Rattle.mp_fitting.specs.Fitting.{ValuesFit, StateFits}
use Rattle.trace_run.specs.Laws.{IsTraceTo, TraceExists, TraceOnce, StatesLast, ClocksFit}

-- the laws of states and environments
abbrev pub NextLasts : Program → Type 0
NextLasts p = (st : State) (inputs env : List ℕ) → IsState p st → IsState p (next_state p st inputs env)

abbrev pub OneEnvironment : Program → Type 0
OneEnvironment p =
    (st : State)
    (inputs a b : List ℕ) → IsState p st → IsEnvironment p st inputs a → IsEnvironment p st inputs b → a ≡ b

pub states_last : (p : Program) → NextLasts p → StatesLast p
states_last p lasts st after inputs outputs is clock = subst (IsState p) (sym clock.next) (lasts st inputs clock.env is)

pub clocks_fit : (p : Program)
    → ((st : State) (inputs env : List ℕ) → IsState p st → StateFits p st → FitsPads (input_pads p) inputs
    → IsEnvironment p st inputs env → ValuesFit p env)
    → ((env : List ℕ) → ValuesFit p env → FitsPads (output_pads p) (outputs_of p.defs env))
    → ((st : State) (inputs env : List ℕ) → StateFits p st → ValuesFit p env
    → StateFits p (next_state p st inputs env)) → ClocksFit p
clocks_fit p environments shown nexts st after inputs outputs is fits given clock =
    let values = environments st inputs clock.env is fits given clock.environment in (
      subst (FitsPads (output_pads p)) (sym clock.shown) (shown clock.env values),
      subst (StateFits p) (sym clock.next) (nexts st inputs clock.env fits values),
    )

-- a trace ends in some state
ends : (p : Program) (st : State) (is os : List (List ℕ)) → IsTraceFrom p st is os
    → (after : State) × IsTraceTo p st is os after
ends p st [] [] h = (st, refl)
ends p st [] (o ∷ os) h = absurd h
ends p st (i ∷ is) [] h = absurd h
ends p st (i ∷ is) (o ∷ os) h = let rest = ends p h.0 is os h.2 in (rest.0, (h.0, h.1, rest.1))

pub trace_exists : (p : Program)
    → ((st : State) (inputs : List (List ℕ)) → IsState p st
    → (outputs : List (List ℕ)) × IsTraceFrom p st inputs outputs) → TraceExists p
trace_exists p exist st inputs is =
    let trace = exist st inputs is in
    let end = ends p st inputs trace.0 trace.1 in (trace.0, end.0, end.1)

pub trace_once : (p : Program) → OneEnvironment p → NextLasts p → TraceOnce p
trace_once p one lasts st v w [] [] [] is a b = (refl, a ∙ sym b)
trace_once p one lasts st v w [] [] (u ∷ us) is a b = absurd b
trace_once p one lasts st v w [] (o ∷ os) us is a b = absurd a
trace_once p one lasts st v w (i ∷ inputs) [] us is a b = absurd a
trace_once p one lasts st v w (i ∷ inputs) (o ∷ os) [] is a b = absurd b
trace_once p one lasts st v w (i ∷ inputs) (o ∷ os) (u ∷ us) is a b =
    let x : IsClock p st i o a.0 = a.1 in
    let y : IsClock p st i u b.0 = b.1 in
    let env : x.env ≡ y.env = one st i x.env y.env is x.environment y.environment in
    let shown : o ≡ u = x.shown ∙ ap (outputs_of p.defs) env ∙ sym y.shown in
    let next : b.0 ≡ a.0 = y.next ∙ sym (ap (next_state p st i) env) ∙ sym x.next in
    let T : State → Type 0 = λ s. IsTraceTo p s inputs us w in
    let rest =
    trace_once p one lasts a.0 v w inputs os us (states_last p lasts st a.0 i o is x) a.2 (subst T next b.2) in
    (ap (λ s. s ∷ os) shown ∙ ap (λ s. u ∷ s) rest.0, rest.1)
