-- The transcript of a source's trace along a stimulus.
use Rattle.std.specs.Prelude.{◌≡◌, ℕ, List, Some, map}
use Rattle.mp_base.specs.declared.pad.Pads.{Pads}
use Rattle.mp_program.specs.declared.program.Program.{Program}
use Rattle.mp_program.specs.Pads.{ArePadsOf}
use Rattle.mp_program.specs.Trace.{IsTrace}
use Rattle.stimulus.specs.declared.given.Stimulus.{Stimulus}
use Rattle.stimulus.specs.Reading.{IsStimulus}
use Rattle.mp_base.specs.PadBits.{value_bits}
use Rattle.stimulus.specs.Inputs.{inputs_of}
use Rattle.stimulus.specs.Transcript.{lines_text}
use Rattle.mp_source.specs.Source.{IsSource}

-- every clock in full
pub record IsTranscript (source stimulus text : List ℕ) : Type 0 where
  pub program : Program
  pub pads : Pads
  pub given : Stimulus
  pub outputs : List (List ℕ)
  pub is_source : IsSource source program
  pub padded : ArePadsOf program pads
  pub is_stimulus : IsStimulus stimulus (Some pads) given
  pub trace : IsTrace program (inputs_of given) outputs
  pub lines : text ≡ lines_text 0 pads.outputs (map (value_bits pads.outputs) outputs)
