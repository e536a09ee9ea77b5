-- The rules of a stimulus for a source.
use Rattle.std.specs.Prelude.{ℕ, List, Option, Some}
use Rattle.mp_base.specs.declared.refusal.Broken.{Broken}
use Rattle.mp_base.specs.declared.pad.Pads.{Pads}
use Rattle.mp_program.specs.declared.program.Program.{Program}
use Rattle.mp_program.specs.Pads.{ArePadsOf}
use Rattle.stimulus.specs.Reading.{OfPads}
use Rattle.mp_source.specs.Source.{IsSource}

-- The first rule that a stimulus breaks, for the pads of a source.
pub record OfStimulus (source text : List ℕ) (first : Option Broken) : Type 0 where
  pub program : Program
  pub pads : Pads
  pub is_source : IsSource source program
  pub padded : ArePadsOf program pads
  pub rules : OfPads (Some pads) text first
