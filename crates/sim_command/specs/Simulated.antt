-- A circuit and a stimulus, each from a file: its rules, and what is shown of its run.
use Rattle.std.specs.Prelude.{ℕ, List, Option, Some, None}
use Rattle.mp_base.specs.declared.value.Trit.{Trit}
use Rattle.mp_base.specs.declared.value.Trit.TheVariants.{X}
use Rattle.mp_base.specs.declared.refusal.Broken.{Broken}
use Rattle.switch_net.specs.declared.network.Network.{Network}
use Rattle.switch_net.specs.Breaks.{HasPads, IsFirstOfCircuit}
use Rattle.stimulus.specs.declared.given.Stimulus.{Stimulus}
use Rattle.stimulus.specs.Reading.{IsStimulus}
use Rattle.mask_net.specs.Masks.{IsNetOf}
use Rattle.sim_run.specs.Transcript.{IsTranscript}

-- the masks draw this network, and the text is this stimulus, with pads of its own
pub record IsSetUp (masks text : List ℕ) (network : Network) (given : Stimulus) : Type 0 where
  pub drawn : IsNetOf masks network
  pub spelled : IsStimulus text None given

-- the network has the pads of the stimulus, or this is the first rule that it breaks with them
abbrev pub OfCircuit : List ℕ → List ℕ → Option Broken → Type 0
OfCircuit masks text None = (network : Network) × (given : Stimulus) × IsSetUp masks text network given
    × HasPads network given.pads
OfCircuit masks text (Some broken) =
    (network : Network) × (given : Stimulus) × IsSetUp masks text network given
    × IsFirstOfCircuit network given.pads broken

-- every clock in full, from all values X
pub record IsSimulation (masks stimulus text : List ℕ) : Type 0 where
  pub network : Network
  pub given : Stimulus
  pub set_up : IsSetUp masks stimulus network given
  pub after : ℕ → Trit
  pub transcript : IsTranscript network given (λ node. X) after text
