-- What a circuit shows along a stimulus is as long as it, for all crates above.
use Rattle.std.proofs.Common.{[], ℕ, List, ap, ◌∷◌}
use Rattle.mp_base.specs.declared.pad.Pads.{Pads}
use Rattle.mp_base.specs.declared.value.Trit.{Trit}
use Rattle.transcript.specs.Transcript.{RunsAlong}
use Rattle.switch_net.specs.declared.network.Network.{Network}
use Rattle.switch_net.specs.Clock.{IsCircuitTrace}
use Rattle.sim_run.specs.Transcript.{NetworkSteps}

pub circuit_trace : (net : Network) (pads : Pads) (before after : ℕ → Trit) (inputs : List (List ℕ))
    (shown : List (List (List Trit))) → RunsAlong (NetworkSteps net pads) before inputs shown after
    → IsCircuitTrace net pads before inputs shown after
circuit_trace net pads before after [] [] h = λ n. ap (λ v. v n) h
circuit_trace net pads before after [] (o ∷ os) h = absurd h
circuit_trace net pads before after (i ∷ is) [] h = absurd h
circuit_trace net pads before after (i ∷ is) (o ∷ os) h = (h.0, h.1, circuit_trace net pads h.0 after is os h.2)
