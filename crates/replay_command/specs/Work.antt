-- What a replay owes.
use Rattle.std.specs.Prelude.{ℕ, List, Some}
use Rattle.outside.specs.Outside.{bytes_of}
use Rattle.outcome.specs.Work.{Work}
use Rattle.source_files.specs.Faults.{RunFault}
use Rattle.compile_command.specs.Compiled.{IsCompiled}
use Rattle.replay_command.specs.Replayed.{IsReplayed}

-- the rules of the source and of the stimulus; then the masks of the source's chip, and the run of their circuit
abbrev pub work : List ℕ → List ℕ → List ℕ → Work
work source stimulus cif = record {
  First = RunFault source stimulus;
  target = Some cif;
  Shows = λ files chip text. IsCompiled (bytes_of files source) chip
      × IsReplayed (bytes_of files source) (bytes_of files stimulus) chip text;
}
