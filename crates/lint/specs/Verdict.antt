-- The first mistake of a source and of a stimulus for it, as `trace` finds it, and the report that tells it.
use Rattle.std.specs.Prelude.{◌≡◌, ℕ, List, [], ◌∷◌, ◌++◌, codes, Bool, true, false, Option, None, Some}
use Rattle.std.specs.Option.{option_map}
use Rattle.mp_base.specs.declared.refusal.Broken.{Broken}
use Rattle.mp_source.specs.Source.{OfSource}
use Rattle.outcome.specs.Line.{line_of}
use Rattle.outcome.specs.Order.{Fault, Breaks, Then, OfFile}
use Rattle.source_files.specs.Stimulus.{OfStimulus}
use Rattle.source_files.specs.declared.limits.TheConstants.{TEXT_LIMIT}
use Rattle.lint.specs.declared.file.File.{File}

-- the faults of a file that holds these bytes, by L1 and then by its rules
abbrev pub OfHeld : (List ℕ → Option Broken → Type 0) → File → Option Fault → Type 0
OfHeld Rules file = OfFile TEXT_LIMIT Rules file.name.now (Some file.bytes.now)

-- the faults of a source, and then of a stimulus for it where there is one: those of `trace` over files that hold them
abbrev pub OfTexts : File → Option File → Option Fault → Type 0
OfTexts source None = OfHeld OfSource source
OfTexts source (Some stimulus) = Then (OfHeld OfSource source) (OfHeld (OfStimulus source.bytes.now) stimulus)

-- a broken rule, as a fault
abbrev pub fault_of : Option Broken → Option Fault
fault_of first = option_map Breaks first

-- the line that tells that there is no mistake
abbrev pub no_mistakes : List ℕ
no_mistakes = codes "no mistakes" ++ 10 ∷ []

-- a report tells a mistake, and begins with the line that `macpitts` answers; or it tells that there is none
abbrev pub Tells : Option Broken → Bool → List ℕ → Type 0
Tells None refused text = (refused ≡ false) × (rest : List ℕ) × (text ≡ no_mistakes ++ rest)
Tells (Some broken) refused text = (refused ≡ true) × (rest : List ℕ) × (text ≡ line_of broken ++ rest)
