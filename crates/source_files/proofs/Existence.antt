-- Sources and stimuli have a first fault, or none.
use Rattle.std.proofs.Common.{◌⊎◌, ℕ, List, Option, Some, None, inl, inr, refl}
use Rattle.std.specs.FinMap.{get}
use Rattle.outside.specs.Outside.{Files, bytes_of}
use Rattle.mp_base.specs.declared.pad.Pads.{Pads}
use Rattle.mp_base.specs.declared.refusal.Family.TheVariants.{S}
use Rattle.mp_base.specs.declared.refusal.Place.{Place}
use Rattle.mp_base.specs.declared.refusal.Spot.TheVariants.{At}
use Rattle.mp_program.specs.declared.program.Program.{Program}
use Rattle.mp_source.specs.Source.{IsSource, OfSource}
use Rattle.stimulus.specs.declared.given.Stimulus.{Stimulus}
use Rattle.stimulus.specs.Reading.{IsFirst, IsStimulus, OfPads}
use Rattle.stages.proofs.Existence.{Exists, some_of_file, some_of_two}
use Rattle.source_files.specs.declared.limits.TheConstants.{TEXT_LIMIT}
use Rattle.source_files.specs.Faults.{PadsFault, RunFault, SourceFault, StimulusFault}
use Rattle.source_files.specs.Stimulus.{OfStimulus}
use Rattle.source_files.proofs.PadsExist.{some_pads}

-- the laws of the crates below
pub record Verdicts : Type 0 where
  pub source : (text : List ℕ) → Exists (OfSource text)
  pub stimulus : (text : List ℕ) (known : Option Pads)
      → ((s : Stimulus) × IsStimulus text known s) ⊎ ((k : ℕ) × (at : Place) × IsFirst text known k at)

module _ (verdicts : Verdicts) where
  some_of_pads : (known : Option Pads) (text : List ℕ) → Exists (OfPads known text)
  some_of_pads known text = by (verdicts.stimulus text known)
    where
      by : ((s : Stimulus) × IsStimulus text known s) ⊎ ((k : ℕ) × (at : Place) × IsFirst text known k at)
          → Exists (OfPads known text)
      by (inl (given, is)) = (None, (given, is))
      by (inr (k, at, first)) =
          (Some (record { rule = record { family = S; number = k }; spot = At at }), (refl, first))

  some_of_stimulus : (source text : List ℕ) (program : Program) → IsSource source program
      → Exists (OfStimulus source text)
  some_of_stimulus source text program is =
      let (pads, padded) = some_pads program is.unbroken in
      let (first, rules) = some_of_pads (Some pads) text in
      (first, record { program = program; pads = pads; is_source = is; padded = padded; rules = rules })

  module _ (files : Files) where
    pub some_of_headed : (stimulus : List ℕ) → Exists (PadsFault None stimulus files)
    some_of_headed stimulus = some_of_file TEXT_LIMIT (OfPads None) stimulus (get files stimulus)
        (some_of_pads None (bytes_of files stimulus))

    pub some_of_source : (source : List ℕ) → Exists (SourceFault source files)
    some_of_source source = some_of_file TEXT_LIMIT OfSource source (get files source)
        (verdicts.source (bytes_of files source))

    pub some_of_run : (source stimulus : List ℕ) → Exists (RunFault source stimulus files)
    some_of_run source stimulus =
        some_of_two (SourceFault source files) (StimulusFault (bytes_of files source) stimulus files)
        (some_of_source source)
        (λ none. some_of_file TEXT_LIMIT (OfStimulus (bytes_of files source)) stimulus (get files stimulus)
        (some_of_stimulus (bytes_of files source) (bytes_of files stimulus) none.1.0 none.1.1))
