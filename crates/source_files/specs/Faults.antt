-- The faults of the files that hold sources and stimuli.
use Rattle.std.specs.Prelude.{ℕ, List, Option}
use Rattle.std.specs.FinMap.{get}
use Rattle.outside.specs.Outside.{Files, bytes_of}
use Rattle.mp_base.specs.declared.pad.Pads.{Pads}
use Rattle.source_files.specs.declared.limits.TheConstants.{TEXT_LIMIT}
use Rattle.mp_source.specs.Source.{OfSource}
use Rattle.outcome.specs.Order.{Fault, Then, OfFile}
use Rattle.source_files.specs.Stimulus.{OfStimulus}
use Rattle.stimulus.specs.Reading.{OfPads}

-- the faults of the file that holds a source
abbrev pub SourceFault : List ℕ → Files → Option Fault → Type 0
SourceFault name files = OfFile TEXT_LIMIT OfSource name (get files name)

-- the faults of the file that holds a stimulus for the pads that are known, or else for its own
abbrev pub PadsFault : Option Pads → List ℕ → Files → Option Fault → Type 0
PadsFault known name files = OfFile TEXT_LIMIT (OfPads known) name (get files name)

-- the faults of the file that holds a stimulus for a source
abbrev pub StimulusFault : List ℕ → List ℕ → Files → Option Fault → Type 0
StimulusFault source name files = OfFile TEXT_LIMIT (OfStimulus source) name (get files name)

-- the faults of the files that hold a source and a stimulus for it
abbrev pub RunFault : List ℕ → List ℕ → Files → Option Fault → Type 0
RunFault source stimulus files = Then (SourceFault source files)
    (StimulusFault (bytes_of files source) stimulus files)
