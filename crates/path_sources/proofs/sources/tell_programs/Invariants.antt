use Rattle.std.proofs.Common.{◌≡◌, ℕ, length, take}
use Rattle.organelles.specs.declared.slices.Programmed.{Programmed}
use Rattle.path_sources.specs.Sources.{program_source, or_source, source_at, told}
use Rattle.path_sources.proofs.sources.tell_programs.Given as goal

abbrev pub invariant-loop-program : goal.invariant-loop-program
invariant-loop-program l = record {
  size : length l.sources ≡ length l.initial.sources;
  told : (n : ℕ) → source_at l.sources n
      ≡ or_source (source_at l.initial.sources n) (told (λ (p : Programmed). p.net) program_source n
      (take l.program-index l.programs));
}
