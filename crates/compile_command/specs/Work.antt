-- What a compilation owes.
use Rattle.std.specs.Prelude.{◌≡◌, ℕ, List, [], Some}
use Rattle.outside.specs.Outside.{bytes_of}
use Rattle.outcome.specs.Work.{Work}
use Rattle.source_files.specs.Faults.{SourceFault}
use Rattle.compile_command.specs.Compiled.{IsCompiled}

-- the rules of the source; then the masks of its chip, and no text
abbrev pub work : List ℕ → List ℕ → Work
work source cif = record {
  First = SourceFault source;
  target = Some cif;
  Shows = λ files chip text. IsCompiled (bytes_of files source) chip × (text ≡ []);
}
