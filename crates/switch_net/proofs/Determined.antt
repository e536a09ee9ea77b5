-- What a circuit shows is determined.
use Rattle.std.proofs.Common.{◌≡◌, ℕ, List, [], ◌∷◌, Option, Some, None, refl, sym, ◌∙◌, ap, subst}
use Rattle.std.specs.List.{AllZip}
use Rattle.mp_base.specs.declared.value.Trit.{Trit}
use Rattle.mp_base.specs.declared.pad.Pad.{Pad}
use Rattle.mp_base.specs.declared.pad.Pads.{Pads}
use Rattle.switch_net.specs.declared.network.Network.{Network}
use Rattle.switch_net.specs.Settled.{IsSettled}
use Rattle.switch_net.specs.Pads.{bit_labels}
use Rattle.switch_net.specs.Clock.{Phases, Drive, drives, AreDrivers, SettlesTo, RunsTo, HasValue, Shows, IsClock}
use Rattle.switch_net.specs.Clock.{IsCircuitTrace, settings_until_outputs, settings_after_outputs}
use Rattle.switch_net.specs.Laws.{TraceOnce}
use Rattle.switch_net.proofs.Rounds.{settled_once}

-- a relation that determines each item determines the list
zip_once : {A B : Type 0} (R : A → B → Type 0) → ((a : A) (b c : B) → R a b → R a c → b ≡ c)
    → (xs : List A) (ys zs : List B) → AllZip R xs ys → AllZip R xs zs → ys ≡ zs
zip_once R f [] [] [] h k = refl
zip_once R f [] [] (z ∷ zs) h k = absurd k
zip_once R f [] (y ∷ ys) zs h k = absurd h
zip_once R f (x ∷ xs) [] zs h k = absurd h
zip_once R f (x ∷ xs) (y ∷ ys) [] h k = absurd k
zip_once R f (x ∷ xs) (y ∷ ys) (z ∷ zs) h k =
    let e : y ≡ z = f x y z h.0 k.0 in
    let r : ys ≡ zs = zip_once R f xs ys zs h.1 k.1 in
    λ i. e i ∷ r i

driven_too : (net : Network) (driven : List Drive) (d e : ℕ → Option Trit) → AreDrivers net driven d
    → AreDrivers net driven e → (n : ℕ) (b : Trit) → d n ≡ Some b → e n ≡ Some b
driven_too net driven d e h k n b q =
    let w = h.only n b q in
    k.each w.0 n w.1 w.2 ∙ ap (λ t. Some t) w.3

-- the drivers are determined
drivers_once : (net : Network) (driven : List Drive) (d e : ℕ → Option Trit) → AreDrivers net driven d
    → AreDrivers net driven e → d ≡ e
drivers_once net driven d e h k = λ i n. at n (d n) refl (e n) refl i
  where
    at : (n : ℕ) (x : Option Trit) → d n ≡ x → (y : Option Trit) → e n ≡ y → d n ≡ e n
    at n (Some b) p y q = p ∙ sym (driven_too net driven d e h k n b p)
    at n None p None q = p ∙ sym q
    at n None p (Some b) q = driven_too net driven e d k h n b q ∙ sym q

settles_once : (net : Network) (driven : List Drive) (before v w : ℕ → Trit) → SettlesTo net driven before v
    → SettlesTo net driven before w → v ≡ w
settles_once net driven before v w h k =
    let d = drivers_once net driven h.driver k.driver h.drivers k.drivers in
    settled_once (record { channels = net.channels; driver = k.driver; before = before }) v w
    (subst (λ x. IsSettled (record { channels = net.channels; driver = x; before = before }) v) d h.settled) k.settled

runs_once : (net : Network) (inputs : List Pad) (words : List ℕ) (ps : List Phases) (before v w : ℕ → Trit)
    → RunsTo net inputs words ps before v → RunsTo net inputs words ps before w → v ≡ w
runs_once net inputs words [] before v w h k = λ i n. (h n ∙ sym (k n)) i
runs_once net inputs words (p ∷ ps) before v w h k =
    let e = settles_once net (drives p inputs words) before h.0 k.0 h.1 k.1 in
    runs_once net inputs words ps k.0 v w (subst (λ x. RunsTo net inputs words ps x v) e h.2) k.2

value_once : (net : Network) (values : ℕ → Trit) (name : List ℕ) (b c : Trit) → HasValue net values name b
    → HasValue net values name c → b ≡ c
value_once net values name b c h k =
    let s = h.1 in
    let t = k.1 in
    let e : h.0 ≡ k.0 = sym s.3 ∙ net.one_node_each s.0 t.0 s.1 t.1 (s.2 ∙ sym t.2) ∙ t.3 in
    sym h.2 ∙ ap values e ∙ k.2

shows_once : (net : Network) (values : ℕ → Trit) (pad : Pad) (b c : List Trit) → Shows net values pad b
    → Shows net values pad c → b ≡ c
shows_once net values pad b c h k = zip_once (HasValue net values) (value_once net values) (bit_labels pad) b c h k

clock_once : (net : Network) (pads : Pads) (words : List ℕ) (before : ℕ → Trit) (shown other : List (List Trit))
    (v w : ℕ → Trit)
    → IsClock net pads words before shown v → IsClock net pads words before other w → (shown ≡ other) × (v ≡ w)
clock_once net pads words before shown other v w h k =
    let e = runs_once net pads.inputs words settings_until_outputs before h.values k.values h.until k.until in (
      zip_once (Shows net k.values) (shows_once net k.values) pads.outputs shown other
          (subst (λ x. AllZip (Shows net x) pads.outputs shown) e h.shows) k.shows,
      runs_once net pads.inputs words settings_after_outputs k.values v w
          (subst (λ x. RunsTo net pads.inputs words settings_after_outputs x v) e h.rest) k.rest,
    )

pub trace_once : TraceOnce
trace_once net pads before [] [] [] v w h k = (refl, λ i n. (h n ∙ sym (k n)) i)
trace_once net pads before [] [] (o ∷ os) v w h k = absurd k
trace_once net pads before [] (o ∷ os) other v w h k = absurd h
trace_once net pads before (words ∷ inputs) [] other v w h k = absurd h
trace_once net pads before (words ∷ inputs) (o ∷ os) [] v w h k = absurd k
trace_once net pads before (words ∷ inputs) (o ∷ os) (u ∷ us) v w h k =
    let c = clock_once net pads words before o u h.0 k.0 h.1 k.1 in
    let r = trace_once net pads k.0 inputs os us v w (subst (λ x. IsCircuitTrace net pads x inputs os v) c.1 h.2) k.2 in
    (λ i. c.0 i ∷ r.0 i, r.1)
