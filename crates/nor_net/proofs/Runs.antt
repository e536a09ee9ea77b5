-- Finitely many nets have a trace from any values, exactly one.
use Rattle.std.proofs.Common.{◌≡◌, List, [], ◌∷◌, Option, refl, sym, ◌∙◌, subst}
use Rattle.mp_base.specs.declared.value.Trit.{Trit}
use Rattle.nor_net.specs.declared.net.Phase.{Phase}
use Rattle.nor_net.specs.Elements.{Spot, Nets}
use Rattle.nor_net.specs.Settled.{IsSettled}
use Rattle.nor_net.specs.Clock.{RunsBy, IsClockBy, IsTrace, settings_until_outputs, settings_after_outputs}
use Rattle.nor_net.specs.Laws.{Covers, TraceExists, TraceOnce}
use Rattle.nor_net.proofs.Solving.{settled_once}
use Rattle.nor_net.proofs.Exists.{settled_exists}

module _ (nets : Nets) where
  module _ (cover : List Spot) (covers : Covers cover nets) where
    runs : (given : Spot → Trit) (ps : List (Option Phase)) (before : Spot → Trit)
        → (after : Spot → Trit) × RunsBy IsSettled nets given ps before after
    runs given [] before = (before, λ n. refl)
    runs given (p ∷ ps) before =
        let s = settled_exists (record { nets = nets; phase = p; given = given; before = before }) cover covers in
        let r = runs given ps s.0 in
        (r.0, (s.0, s.1, r.1))

    trace : (before : Spot → Trit) (givens : List (Spot → Trit))
        → (showns : List (Spot → Trit)) × (after : Spot → Trit) × IsTrace nets before givens showns after
    trace before [] = ([], before, λ n. refl)
    trace before (given ∷ givens) =
        let until = runs given settings_until_outputs before in
        let rest = runs given settings_after_outputs until.0 in
        let r = trace rest.0 givens in
        (until.0 ∷ r.0, r.1, (rest.0, record { until = until.1; rest = rest.1 }, r.2))

  runs_once : (given : Spot → Trit) (ps : List (Option Phase)) (before v w : Spot → Trit)
      → RunsBy IsSettled nets given ps before v → RunsBy IsSettled nets given ps before w → v ≡ w
  runs_once given [] before v w h k = λ i n. (h n ∙ sym (k n)) i
  runs_once given (p ∷ ps) before v w h k =
      let e = settled_once (record { nets = nets; phase = p; given = given; before = before }) h.0 k.0 h.1 k.1 in
      runs_once given ps k.0 v w (subst (λ x. RunsBy IsSettled nets given ps x v) e h.2) k.2

  clock_once : (given : Spot → Trit) (before shown other v w : Spot → Trit)
      → IsClockBy IsSettled nets given before shown v → IsClockBy IsSettled nets given before other w
      → (shown ≡ other) × (v ≡ w)
  clock_once given before shown other v w h k =
      let e = runs_once given settings_until_outputs before shown other h.until k.until in (
        e,
        runs_once given settings_after_outputs other v w
            (subst (λ x. RunsBy IsSettled nets given settings_after_outputs x v) e h.rest) k.rest,
      )

pub trace_exists : TraceExists
trace_exists nets cover covers before givens = trace nets cover covers before givens

pub trace_once : TraceOnce
trace_once nets before [] [] [] v w h k = (refl, λ i n. (h n ∙ sym (k n)) i)
trace_once nets before [] [] (o ∷ os) v w h k = absurd k
trace_once nets before [] (o ∷ os) other v w h k = absurd h
trace_once nets before (g ∷ gs) [] other v w h k = absurd h
trace_once nets before (g ∷ gs) (o ∷ os) [] v w h k = absurd k
trace_once nets before (g ∷ gs) (o ∷ os) (u ∷ us) v w h k =
    let c = clock_once nets g before o u h.0 k.0 h.1 k.1 in
    let r = trace_once nets k.0 gs os us v w (subst (λ x. IsTrace nets x gs os v) c.1 h.2) k.2 in
    (λ i. c.0 i ∷ r.0 i, r.1)
