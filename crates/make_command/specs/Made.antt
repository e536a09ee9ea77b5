-- What is told of the circuit of a made source.
use Rattle.std.specs.Prelude.{◌≡◌, ℕ, List, ◌++◌, Some}
use Rattle.mp_base.specs.declared.value.Trit.{Trit}
use Rattle.mp_base.specs.declared.value.Trit.TheVariants.{X}
use Rattle.mp_base.specs.declared.pad.Pads.{Pads}
use Rattle.mp_program.specs.declared.program.Program.{Program}
use Rattle.mp_program.specs.Pads.{ArePadsOf}
use Rattle.mp_program.specs.Trace.{IsTrace}
use Rattle.mp_program.specs.Weight.{weight}
use Rattle.mp_source.specs.Source.{IsSource}
use Rattle.stimulus.specs.declared.given.Stimulus.{Stimulus}
use Rattle.stimulus.specs.Inputs.{inputs_of}
use Rattle.stimulus.specs.Reading.{IsStimulus}
use Rattle.switch_net.specs.declared.network.Network.{Network}
use Rattle.mask_net.specs.Masks.{IsNetOf}
use Rattle.mask_net.specs.SizeLine.{last_line}
use Rattle.sim_run.specs.Transcript.{IsTranscript}
use Rattle.program_maker.specs.Texts.{source_text, stimulus_text}
use Rattle.settled_sum.specs.Sum.{IsSettledSum}
use Rattle.made_run.specs.Summary.{summary_text}

-- The text tells the program's weight, that there are 65 clocks, and the sum of the program's first output in the
-- settled ones; then the size of the circuit that the chip's bytes draw, with the values at the end of its run along
-- the stimulus from all values X.
pub record TellsRun (program : Program) (given : Stimulus) (chip text : List ℕ) : Type 0 where
  pub outputs : List (List ℕ)
  pub trace : IsTrace program (inputs_of given) outputs
  pub sum : ℕ
  pub summed : IsSettledSum program (inputs_of given) outputs sum
  pub network : Network
  pub drawn : IsNetOf chip network
  pub end : ℕ → Trit
  pub front : List ℕ
  pub transcript : IsTranscript network given (λ node. X) end front
  pub lines : text ≡ summary_text (weight program) sum ++ last_line network end

-- the text tells of the run of the chip of a number's source along the number's stimulus
pub record IsMadeRun (seed : ℕ) (chip text : List ℕ) : Type 0 where
  pub program : Program
  pub pads : Pads
  pub given : Stimulus
  pub is_source : IsSource (source_text seed) program
  pub padded : ArePadsOf program pads
  pub is_stimulus : IsStimulus (stimulus_text seed) (Some pads) given
  pub run : TellsRun program given chip text
