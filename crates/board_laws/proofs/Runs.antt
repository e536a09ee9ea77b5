-- Runs of circuits and of programs.
use Rattle.std.proofs.Common.{◌≡◌, ◌∙◌, ℕ, suc, ◌+◌, ◌<◌, List, [], ◌∷◌, true, length, map, refl, ap, subst, arith}
use Rattle.std.specs.Prelude.{slice_index_or}
use Rattle.mp_base.specs.declared.value.Trit.{Trit}
use Rattle.mp_base.specs.declared.pad.Pad.{Pad}
use Rattle.mp_base.specs.declared.pad.Pads.{Pads}
use Rattle.mp_program.specs.declared.program.Program.{Program}
use Rattle.mp_program.specs.State.{State}
use Rattle.mp_program.specs.Trace.{IsTraceFrom}
use Rattle.switch_net.specs.declared.network.Network.{Network}
use Rattle.switch_net.specs.Clock.{IsClock}
use Rattle.switch_net.specs.Values.{value_at}
use Rattle.mp_base.specs.PadBits.{value_bits}
use Rattle.clock_run.specs.Circuit.{Running}
use Rattle.clock_run.specs.Device.{CircuitSteps}
use Rattle.transcript.specs.Transcript.{RunsAlong}
use Rattle.sim_run.specs.Transcript.{NetworkSteps}
use Rattle.trace_run.specs.Transcript.{ProgramSteps}
use Rattle.board.specs.Face.{Face}
use Rattle.board.specs.Loop.{Wired, Exchange, is_settled, faces_after, made, inputs_with}
use Rattle.board.specs.Laws.{AgreeWhereSettled}

pub circuit_runs : (net : Network) (pads : Pads) (s t : Running) (inputs : List (List ℕ))
    (shown : List (List (List Trit)))
    → s.network ≡ net → s.pads ≡ pads → RunsAlong CircuitSteps s inputs shown t
    → RunsAlong (NetworkSteps net pads) (value_at s.values) inputs shown (value_at t.values)
circuit_runs net pads s t [] [] same with_pads h = ap (λ (r : Running). value_at r.values) h
circuit_runs net pads s t [] (o ∷ os) same with_pads h = absurd h
circuit_runs net pads s t (i ∷ is) [] same with_pads h = absurd h
circuit_runs net pads s t (i ∷ is) (o ∷ os) same with_pads h =
    let step = h.1 in
    let P : Network → Type 0 = λ n. IsClock n s.pads i (value_at s.values) o (value_at (h.0).values) in
    let Q : Pads → Type 0 = λ ps. IsClock net ps i (value_at s.values) o (value_at (h.0).values) in (
      value_at (h.0).values,
      subst Q with_pads (subst P same step.clock),
      circuit_runs net pads h.0 t is os (step.network ∙ same) (step.pads ∙ with_pads) h.2,
    )

pub program_runs : (p : Program) (pads : List Pad) (st : State) (inputs outputs : List (List ℕ))
    → IsTraceFrom p st inputs outputs
    → (end : State) × RunsAlong (ProgramSteps p pads) st inputs (map (value_bits pads) outputs) end
program_runs p pads st [] [] t = (st, refl)
program_runs p pads st [] (o ∷ os) t = absurd t
program_runs p pads st (i ∷ is) [] t = absurd t
program_runs p pads st (i ∷ is) (o ∷ os) t =
    let r = program_runs p pads t.0 is os t.2 in
    (r.0, (t.0, record { outputs = o; clock = t.1; bits = refl }, r.1))

pub along_many : (swaps : List Exchange) (w : Wired) (clock : ℕ) (faces : List Face) (shown : List (List (List Trit)))
    → length (inputs_with swaps w clock faces shown) ≡ length shown
along_many swaps w clock faces [] = refl
along_many swaps w clock faces (o ∷ os) =
    let now = made w.links swaps clock faces in
    let e = along_many swaps w (suc clock) (faces_after w clock o now) os in omega (arith, e)

-- lists that are the same at each settled clock agree
pub agree_at : (w : Wired) (clock : ℕ) (shown : List (List (List Trit))) (outputs : List (List ℕ))
    → length outputs ≡ length shown
    → ((k : ℕ) → k < length shown → is_settled w (clock + k) ≡ true
    → slice_index_or shown k [] ≡ value_bits (w.pads).outputs (slice_index_or outputs k []))
    → AgreeWhereSettled w clock shown (map (value_bits (w.pads).outputs) outputs)
agree_at w clock [] [] e h = tt
agree_at w clock [] (p ∷ ps) e h = absurd (omega (arith, e))
agree_at w clock (o ∷ os) [] e h = absurd (omega (arith, e))
agree_at w clock (o ∷ os) (p ∷ ps) e h =
    let here : clock + 0 ≡ clock = omega arith in (
      (λ s. h 0 (omega arith) (ap (is_settled w) here ∙ s)),
      agree_at w (suc clock) os ps (omega (arith, e)) (λ k lt s.
          let next : clock + suc k ≡ suc clock + k = omega arith in
          h (suc k) (omega (arith, lt)) (ap (is_settled w) next ∙ s)),
    )
