-- Runs of a circuit, by the laws of its clocks.
use Rattle.std.proofs.Common.{◌≡◌, ◌∙◌, ℕ, zero, suc, ◌<◌, ◌≤◌, List, [], ◌∷◌, Option, Result, length, drop, refl, sym}
use Rattle.std.proofs.Common.{subst, inl, inr, arith}
use Rattle.std.specs.Prelude.{◌⊎◌, All, replicate}
use Rattle.std.proofs.lemmas.Bool.{cases_lt}
use Rattle.std.proofs.lemmas.List.{drop-map, get_or-replicate, get_or_past, length-replicate}
use Rattle.mp_base.specs.declared.value.Trit.{Trit}
use Rattle.mp_base.specs.declared.value.Trit.TheVariants.{X}
use Rattle.mp_base.specs.declared.pad.Pads.{Pads}
use Rattle.switch_net.specs.declared.network.Network.{Network}
use Rattle.switch_net.specs.Breaks.{HasPads}
use Rattle.switch_net.specs.Clock.{IsClock, IsCircuitTrace}
use Rattle.switch_net.specs.Laws.{TraceExists, TraceOnce}
use Rattle.switch_net.specs.Values.{value_at}
use Rattle.stimulus.specs.declared.given.Stimulus.{Stimulus}
use Rattle.stimulus.specs.Inputs.{inputs_at, inputs_of}
use Rattle.mp_base.specs.PadBits.{Fit}
use Rattle.transcript.specs.Transcript.{RunsAlong}
use Rattle.transcript.specs.Running.{PrintsClocks, PrintsTranscript}
use Rattle.transcript.specs.Laws.{IsDetermined, CanStep, StepsOn}
use Rattle.transcript.proofs.Inputs.{clocks_fit}
use Rattle.transcript.proofs.Transcripts.{runs_exist, runs_keep, prints_as, completes}
use Rattle.clock_run.specs.Circuit.{Running}
use Rattle.clock_run.specs.Device.{CircuitSteps}
use Rattle.sim_run.specs.Transcript.{NetworkSteps}

-- values that are X everywhere
pub all_unknown : (n : ℕ) → value_at (replicate n X) ≡ (λ (node : ℕ). X)
all_unknown n = λ i k. at k (cases_lt k n) i
  where
    at : (k : ℕ) → (k < n) ⊎ (n ≤ k) → value_at (replicate n X) k ≡ X
    at k (inl lt) = get_or-replicate n k X X lt
    at k (inr le) =
        get_or_past (replicate n X) k X (let l : length (replicate n X) ≡ n = length-replicate n X in omega arith)

module _ (net : Network) (pads : Pads) where
  -- a trace of one clock is a step
  one_step : (before after : ℕ → Trit) (given : List ℕ) (shown : List (List (List Trit)))
      → IsCircuitTrace net pads before (given ∷ []) shown after
      → (bits : List (List Trit)) × (next : ℕ → Trit) × NetworkSteps net pads before given bits next
  one_step before after given [] h = absurd h
  one_step before after given (o ∷ os) h = (o, h.0, h.1)

  one_fits : (given : List ℕ) → Fit pads.inputs given → All (Fit pads.inputs) (given ∷ [])
  one_fits given fit zero d lt = fit
  one_fits given fit (suc i) d lt = absurd (omega (arith, lt))

  pub can_step : TraceExists → HasPads net pads → (before : ℕ → Trit)
      → CanStep (NetworkSteps net pads) pads.inputs before
  can_step exist has before given fit =
      let trace = exist net pads before (given ∷ []) has (one_fits given fit) in
      one_step before trace.1 given trace.0 trace.2

  pub steps_on : TraceExists → HasPads net pads → StepsOn (NetworkSteps net pads) pads.inputs
  steps_on exist has before after given shown step = can_step exist has after

  pub steps_once : TraceOnce → IsDetermined (NetworkSteps net pads)
  steps_once once before v w given shown other a b =
      let same = once net pads before (given ∷ []) (shown ∷ []) (other ∷ []) v w (v, a, λ n. refl) (w, b, λ n. refl) in
      (let e = same.0 in cc, same.1)

-- along the later clocks of a stimulus
runs_from : TraceExists → (net : Network) (s : Stimulus) → HasPads net s.pads → (before : ℕ → Trit) (k : ℕ)
    → (shown : List (List (List Trit))) × (after : ℕ → Trit)
    × RunsAlong (NetworkSteps net s.pads) before (drop k (inputs_of s)) shown after
runs_from exist net s has before k =
    let f = inputs_at (length (s.pads).inputs) in
    let P : List (List ℕ) → Type 0 = λ is. All (Fit (s.pads).inputs) is in
    runs_exist (NetworkSteps net s.pads) (s.pads).inputs (steps_on net s.pads exist has) before
    (can_step net s.pads exist has before)
    (drop k (inputs_of s)) (subst P (sym (drop-map f k s.clocks)) (clocks_fit (s.pads).inputs s.clocks k s.fits))

-- the network stays the same
pub network_kept : (before after : Running) (is : List (List ℕ)) (shown : List (List (List Trit)))
    → RunsAlong CircuitSteps before is shown after
    → after.network ≡ before.network
network_kept before after is shown h =
    runs_keep CircuitSteps (λ (s : Running). s.network ≡ before.network)
    (λ s t i o same step. step.network ∙ same) before after is shown refl h

-- a step of a circuit is one of its network
circuit_step : (net : Network) (pads : Pads) (s t : Running) (i : List ℕ) (o : List (List Trit))
    → (s.network ≡ net) × (s.pads ≡ pads)
    → CircuitSteps s i o t
    → ((t.network ≡ net) × (t.pads ≡ pads)) × NetworkSteps net pads (value_at s.values) i o (value_at t.values)
circuit_step net pads s t i o same step =
    let P : Network → Type 0 = λ n. IsClock n s.pads i (value_at s.values) o (value_at t.values) in
    let Q : Pads → Type 0 = λ ps. IsClock net ps i (value_at s.values) o (value_at t.values) in
    ((step.network ∙ same.0, step.pads ∙ same.1), subst Q same.1 (subst P same.0 step.clock))

-- what the run of a circuit prints is of a transcript of its network
pub prints_transcript : {T E : Type 0} (given : Stimulus) (before after : Running) (x y : Option (List ℕ))
    (r : Result T E)
    → before.pads ≡ given.pads → HasPads before.network given.pads → TraceExists
    → PrintsClocks CircuitSteps given before after x y r
    → PrintsTranscript (NetworkSteps before.network given.pads) given (value_at before.values)
    (value_at after.values) x y r
prints_transcript given before after x y r same has exist c =
    let net = before.network in
    let Steps : (ℕ → Trit) → List ℕ → List (List Trit) → (ℕ → Trit) → Type 0 = NetworkSteps net given.pads in
    let P : Running → Type 0 = λ s. (s.network ≡ net) × (s.pads ≡ given.pads) in
    let prints : PrintsClocks Steps given (value_at before.values) (value_at after.values) x y r =
    prints_as CircuitSteps Steps (λ s. value_at s.values) P (circuit_step net given.pads) given before after x y r
    (refl, same) c in
    completes Steps given (value_at before.values) (value_at after.values) x y r
    (λ k. runs_from exist net given has (value_at after.values) k) prints
