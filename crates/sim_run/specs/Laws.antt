-- What holds of every transcript.
use Rattle.std.specs.Prelude.{◌≡◌, ℕ, List}
use Rattle.mp_base.specs.declared.value.Trit.{Trit}
use Rattle.switch_net.specs.declared.network.Network.{Network}
use Rattle.switch_net.specs.Breaks.{HasPads}
use Rattle.stimulus.specs.declared.given.Stimulus.{Stimulus}
use Rattle.sim_run.specs.Transcript.{IsTranscript}

-- a network that has the pads of a stimulus has a transcript along it from all values before
abbrev pub TranscriptExists : Type 0
TranscriptExists =
    (net : Network) (given : Stimulus) (before : ℕ → Trit) → HasPads net given.pads
    → (after : ℕ → Trit) × (text : List ℕ) × IsTranscript net given before after text

-- the transcript, and the values after, are determined
abbrev pub TranscriptOnce : Type 0
TranscriptOnce =
    (net : Network) (given : Stimulus) (before v w : ℕ → Trit) (text other : List ℕ)
    → IsTranscript net given before v text
    → IsTranscript net given before w other
    → (text ≡ other) × (v ≡ w)
