-- What is shown of a source's chip.
use Rattle.std.proofs.Common.{ℕ, List, [], refl, Option, Some, None, IfSome}
use Rattle.outside.specs.Outside.{Files, bytes_of}
use Rattle.mp_program.specs.declared.program.Program.{Program}
use Rattle.mp_source.specs.Source.{IsSource}
use Rattle.plan_stats.specs.Stats.{IsStatsOf}
use Rattle.stats_command.specs.Work.{work}

pub shows_size : (source text : List ℕ) (program : Program) (held : Option Files) → IsStatsOf program text
    → IfSome held (λ files. IsSource (bytes_of files source) program)
    → IfSome held (λ files. (work source).Shows files [] text)
shows_size source text program None stats is = tt
shows_size source text program (Some files) stats is =
    (refl, record { program = program; is_source = is; stats = stats })
