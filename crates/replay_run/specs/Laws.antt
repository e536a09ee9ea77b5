-- What holds of chips that run.
use Rattle.std.specs.Prelude.{◌≡◌, ◌<◌, ℕ, List, [], None, length, slice_index_or}
use Rattle.mp_base.specs.declared.value.Trit.{Trit}
use Rattle.mp_base.specs.declared.pad.Pads.{Pads}
use Rattle.mp_program.specs.declared.program.Program.{Program}
use Rattle.mp_program.specs.Pads.{ArePadsOf}
use Rattle.mp_program.specs.Trace.{IsTrace, IsSettled}
use Rattle.switch_net.specs.declared.network.Network.{Network}
use Rattle.switch_net.specs.Breaks.{HasPads}
use Rattle.stimulus.specs.declared.given.Stimulus.{Stimulus}
use Rattle.mp_base.specs.PadBits.{value_bits}
use Rattle.stimulus.specs.Inputs.{inputs_of}
use Rattle.mask_net.specs.Masks.{IsNetOf, OfMask}
use Rattle.headline.specs.Headline.{IsChipOf}
use Rattle.replay_run.specs.Replay.{IsReplay}

-- a program has the same pads everywhere
abbrev pub OnePads : Type 0
OnePads = (p : Program) (pads other : Pads) → ArePadsOf p pads → ArePadsOf p other → pads ≡ other

-- the bytes of a chip break no rule of masks
abbrev pub ChipsDraw : Type 0
ChipsDraw = (p : Program) (bytes : List ℕ) → IsChipOf p bytes → OfMask bytes None

-- the network that they draw has the pads of the program
abbrev pub ChipsHavePads : Type 0
ChipsHavePads =
    (p : Program) (bytes : List ℕ) (net : Network) (pads : Pads) → IsChipOf p bytes → ArePadsOf p pads
    → IsNetOf bytes net → HasPads net pads

-- The program has a trace along the stimulus, and what is shown in each settled clock are the bits of its values. So
-- the lines of these clocks are those of the program's transcript.
pub record FollowsProgram (p : Program) (given : Stimulus) (shown : List (List (List Trit))) : Type 0 where
  pub outputs : List (List ℕ)
  pub trace : IsTrace p (inputs_of given) outputs
  pub as_many : length shown ≡ length outputs
  pub agrees : (k : ℕ) → k < length shown → IsSettled p (inputs_of given) k
      → slice_index_or shown k [] ≡ value_bits (given.pads).outputs (slice_index_or outputs k [])

-- the replay of a chip shows in each settled clock what the program shows
abbrev pub ReplaysFollow : Type 0
ReplaysFollow =
    (p : Program) (bytes : List ℕ) (net : Network) (given : Stimulus) (text : List ℕ) → IsChipOf p bytes
    → ArePadsOf p given.pads → IsNetOf bytes net → (replay : IsReplay net given text)
    → FollowsProgram p given (replay.transcript).shown
