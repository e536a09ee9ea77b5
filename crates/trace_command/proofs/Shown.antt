-- What a trace shows.
use Rattle.std.proofs.Common.{ℕ, List, [], map, ap, ◌∙◌, Option, Some, None, IfSome}
use Rattle.outside.specs.Outside.{Files, bytes_of}
use Rattle.mp_program.specs.declared.program.Program.{Program}
use Rattle.mp_program.specs.Pads.{ArePadsOf}
use Rattle.mp_program.specs.State.{zero_state}
use Rattle.mp_checker.specs.Checking.{CheckedProgram}
use Rattle.stimulus.specs.declared.given.Stimulus.{Stimulus}
use Rattle.stimulus.specs.Reading.{IsStimulus}
use Rattle.mp_base.specs.PadBits.{value_bits}
use Rattle.stimulus.specs.Transcript.{lines_text}
use Rattle.mp_source.specs.Source.{IsSource}
use Rattle.trace_run.proofs.Transcripts.{transcript_shows}
use Rattle.source_files.specs.Faults.{RunFault}
use Rattle.source_files.proofs.StimulusRules.{pads_for}
use Rattle.stages.specs.Stages.{IsNoFault, LeadsTo}
use Rattle.trace_command.specs.Traced.{Traces}
use Rattle.trace_command.specs.Work.{work}

-- a transcript may be shown, whatever the files are
pub may_show : (program : Program) (given : Stimulus) (text : List ℕ) → Traces program given [] text
    → (held : Option Files)
    → IfSome held (λ files. IsNoFault None) × IfSome held (λ files. Traces program given [] text)
may_show program given text traces None = (tt, tt)
may_show program given text traces (Some files) = (tt, traces)

module _ (source stimulus : List ℕ) (checked : CheckedProgram) (given : Stimulus)
    (padded : ArePadsOf checked.program given.pads) where
  shows : (files : Files) → IsSource (bytes_of files source) checked.program
      → IsStimulus (bytes_of files stimulus) (Some checked.pads) given
      → (chip text : List ℕ) → Traces checked.program given chip text
      → (work source stimulus).Shows files chip text
  shows files spelled read chip text traces =
      let told = transcript_shows checked.program given (zero_state checked.program) traces.end text
      traces.transcript in (
        traces.none,
        record {
          program = checked.program;
          pads = checked.pads;
          given = given;
          outputs = told.0;
          is_source = spelled;
          padded = pads_for checked (bytes_of files stimulus) given padded read;
          is_stimulus = read;
          trace = told.1;
          lines = told.2 ∙ ap (λ pads. lines_text 0 pads (map (value_bits pads) told.0)) read.outputs;
        },
      )

  -- what was read and judged leads to the transcript
  pub leads : (held : Option Files) → IfSome held (λ files. RunFault source stimulus files None)
      → IfSome held (λ files. IsSource (bytes_of files source) checked.program)
      → IfSome held (λ files. IsStimulus (bytes_of files stimulus) (Some checked.pads) given)
      → IfSome held (LeadsTo (work source stimulus) (Traces checked.program given))
  leads None fault spelled read = tt
  leads (Some files) fault spelled read = (fault, shows files spelled read)
