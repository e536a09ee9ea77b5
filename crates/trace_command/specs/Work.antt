-- What a trace owes.
use Rattle.std.specs.Prelude.{◌≡◌, ℕ, List, [], None}
use Rattle.outside.specs.Outside.{bytes_of}
use Rattle.outcome.specs.Work.{Work}
use Rattle.source_files.specs.Faults.{RunFault}
use Rattle.trace_command.specs.Transcript.{IsTranscript}

-- the rules of the source and of the stimulus; then the transcript, and no file
abbrev pub work : List ℕ → List ℕ → Work
work source stimulus = record {
  First = RunFault source stimulus;
  target = None;
  Shows = λ files chip text. (chip ≡ []) × IsTranscript (bytes_of files source) (bytes_of files stimulus) text;
}
