-- Sources and stimuli have one first fault at most.
use Rattle.std.proofs.Common.{List, ℕ, None}
use Rattle.std.specs.FinMap.{get}
use Rattle.outside.specs.Outside.{Files, bytes_of}
use Rattle.mp_base.proofs.Decisions.{IsDetermined}
use Rattle.source_files.specs.declared.limits.TheConstants.{TEXT_LIMIT}
use Rattle.mp_source.specs.Source.{OfSource}
use Rattle.outcome.proofs.Determined.{one_of_two, one_of_file}
use Rattle.source_files.specs.Faults.{SourceFault, StimulusFault, RunFault, PadsFault}
use Rattle.source_files.specs.Stimulus.{OfStimulus}
use Rattle.stimulus.specs.Reading.{OfPads}
use Rattle.source_files.proofs.Sources.{OneSource, OneVerdict, one_program}
use Rattle.source_files.proofs.StimulusRules.{OneFirst, ReadBreaksNothing, one_of_pads, one_of_stimulus}

-- the laws of the crates below
pub record Laws : Type 0 where
  pub source : OneSource
  pub verdict : OneVerdict
  pub first : OneFirst
  pub whole : ReadBreaksNothing

module _ (laws : Laws) (files : Files) where
  pub one_of_headed : (stimulus : List ℕ) → IsDetermined (PadsFault None stimulus files)
  one_of_headed stimulus = one_of_file TEXT_LIMIT (OfPads None) stimulus (get files stimulus)
      (one_of_pads laws.first laws.whole None (bytes_of files stimulus))

  pub one_of_source : (source : List ℕ) → IsDetermined (SourceFault source files)
  one_of_source source =
      one_of_file TEXT_LIMIT OfSource source (get files source) (laws.verdict (bytes_of files source))

  pub one_of_run : (source stimulus : List ℕ) → IsDetermined (RunFault source stimulus files)
  one_of_run source stimulus =
      one_of_two (SourceFault source files) (StimulusFault (bytes_of files source) stimulus files)
      (one_of_source source)
      (one_of_file TEXT_LIMIT (OfStimulus (bytes_of files source)) stimulus (get files stimulus)
      (one_of_stimulus laws.first laws.whole (one_program laws.source) (bytes_of files source)
      (bytes_of files stimulus)))
