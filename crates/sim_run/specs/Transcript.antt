-- The transcript of a circuit along a stimulus.
use Rattle.std.specs.Prelude.{ℕ, List}
use Rattle.mp_base.specs.declared.value.Trit.{Trit}
use Rattle.mp_base.specs.declared.pad.Pads.{Pads}
use Rattle.switch_net.specs.declared.network.Network.{Network}
use Rattle.switch_net.specs.Clock.{IsClock}
use Rattle.stimulus.specs.declared.given.Stimulus.{Stimulus}
use Rattle.transcript.specs.Transcript as transcripts

-- one clock of the network with these pads
abbrev pub NetworkSteps : Network → Pads → (ℕ → Trit) → List ℕ → List (List Trit) → (ℕ → Trit) → Type 0
NetworkSteps net pads before inputs shown after = IsClock net pads inputs before shown after

-- along the stimulus the network goes from these values before to those after, and this is the transcript
abbrev pub IsTranscript : Network → Stimulus → (ℕ → Trit) → (ℕ → Trit) → List ℕ → Type 0
IsTranscript net given = transcripts.IsTranscript (NetworkSteps net given.pads) given
