-- What the size of a source's chip owes.
use Rattle.std.specs.Prelude.{◌≡◌, ℕ, List, [], None}
use Rattle.outside.specs.Outside.{bytes_of}
use Rattle.mp_program.specs.declared.program.Program.{Program}
use Rattle.mp_source.specs.Source.{IsSource}
use Rattle.outcome.specs.Work.{Work}
use Rattle.source_files.specs.Faults.{SourceFault}
use Rattle.plan_stats.specs.Stats.{IsStatsOf}

-- the source text spells a program that breaks no rule, and the text tells the size of a chip of it
pub record IsSized (source text : List ℕ) : Type 0 where
  pub program : Program
  pub is_source : IsSource source program
  pub stats : IsStatsOf program text

-- the rules of the source; then the size, and no file
abbrev pub work : List ℕ → Work
work source = record {
  First = SourceFault source;
  target = None;
  Shows = λ files chip text. (chip ≡ []) × IsSized (bytes_of files source) text;
}
