-- Reports of a source and of a stimulus for it.
use Rattle.std.proofs.Common.{ℕ, List, Option, None, Some, inl, inr, Result, Ok, Err, IfOk}
use Rattle.mp_base.specs.declared.refusal.Broken.{Broken}
use Rattle.mp_base.specs.declared.pad.Pads.{Pads}
use Rattle.mp_program.specs.declared.program.Program.{Program}
use Rattle.mp_program.specs.Pads.{ArePadsOf}
use Rattle.mp_source.specs.Source.{IsSource, OfSource}
use Rattle.source_files.specs.Stimulus.{OfStimulus}
use Rattle.stimulus.specs.Reading.{OfPads}
use Rattle.lint.specs.declared.file.File.{File}
use Rattle.lint.specs.declared.report.Report.{Report}
use Rattle.lint.specs.Verdict.{OfHeld, OfTexts, Tells, fault_of}

-- a stimulus for the pads of a source is one for the source
pub for_source : (source : List ℕ) (p : Program) (pads : Pads) (file : File) (first : Option Broken) → IsSource source p
    → ArePadsOf p pads → OfHeld (OfPads (Some pads)) file (fault_of first)
    → OfHeld (OfStimulus source) file (fault_of first)
for_source source p pads file None is padded (short, rules) =
    (short, record { program = p; pads = pads; is_source = is; padded = padded; rules = rules })
for_source source p pads file (Some b) is padded (inl long) = inl long
for_source source p pads file (Some b) is padded (inr (short, rules)) =
    inr (short, record { program = p; pads = pads; is_source = is; padded = padded; rules = rules })

-- a source that breaks no rule, and then a stimulus
pub behind_source : (source file : File) (first : Option Broken) → OfHeld OfSource source (fault_of None)
    → OfHeld (OfStimulus source.bytes.now) file (fault_of first) → OfTexts source (Some file) (fault_of first)
behind_source source file None kept held = (kept, held)
behind_source source file (Some b) kept held = inr (kept, held)

-- a source that breaks a rule, whatever the stimulus is
pub of_source : (source : File) (stimulus : Option File) (b : Broken) → OfHeld OfSource source (fault_of (Some b))
    → OfTexts source stimulus (fault_of (Some b))
of_source source None b held = held
of_source source (Some file) b held = inl held

-- a report of a first mistake, or of none
pub told : {E : Type 0} (H : Option Broken → Type 0) (r : Result Report E) (first : Option Broken) → H first
    → IfOk r (λ report. Tells first report.refused report.text.items)
    → IfOk r (λ report. (x : Option Broken) × H x × Tells x report.refused report.text.items)
told H (Ok report) first held tells = (first, held, tells)
told H (Err e) first held tells = tt

-- a report of a stimulus is one of both, where the source breaks no rule
pub further : {E : Type 0} (source file : File) (r : Result Report E) → OfHeld OfSource source (fault_of None)
    → IfOk r (λ report. (x : Option Broken) × OfHeld (OfStimulus source.bytes.now) file (fault_of x)
    × Tells x report.refused report.text.items)
    → IfOk r (λ report. (x : Option Broken) × OfTexts source (Some file) (fault_of x)
    × Tells x report.refused report.text.items)
further source file (Ok report) kept (x, held, tells) = (x, behind_source source file x kept held, tells)
further source file (Err e) kept h = tt
