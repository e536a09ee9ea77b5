-- A source with links and swaps has a first fault, or none.
use Rattle.std.proofs.Common.{ℕ, List}
use Rattle.outside.specs.Outside.{Files, bytes_of}
use Rattle.mp_program.specs.declared.program.Program.{Program}
use Rattle.mp_source.specs.Source.{IsSource}
use Rattle.outcome.specs.Order.{OfRule}
use Rattle.stages.proofs.Existence.{Exists, some_of_rule, some_of_two}
use Rattle.source_files.specs.Faults.{SourceFault}
use Rattle.source_files.proofs.PadsExist.{some_pads}
use Rattle.board.specs.Laws.{PlanVerdict}
use Rattle.board_command.specs.Parts.{Lent}
use Rattle.board_command.specs.Linked.{OfBoard, setting_of}
use Rattle.board_command.specs.Work.{work}

some_of_plans : PlanVerdict → (names : List (List ℕ)) (clocks : ℕ) (source : List ℕ) (words : List (List ℕ))
    (program : Program) → IsSource source program → Exists (OfBoard names clocks source words)
some_of_plans verdict names clocks source words program is =
    let (pads, padded) = some_pads program is.unbroken in
    let (first, rules) = verdict (setting_of names clocks pads) words in
    (first, record { program = program; pads = pads; is_source = is; padded = padded; rules = rules })

pub some_fault : ((name : List ℕ) (files : Files) → Exists (SourceFault name files)) → PlanVerdict → (lent : Lent)
    (source cif : List ℕ) (clocks : ℕ) (words : List (List ℕ)) (files : Files)
    → Exists ((work lent source cif clocks words).First files)
some_fault faults verdict lent source cif clocks words files =
    some_of_two (SourceFault source files) (OfRule (OfBoard lent.names clocks (bytes_of files source) words))
    (faults source files)
    (λ none. some_of_rule (OfBoard lent.names clocks (bytes_of files source) words)
    (some_of_plans verdict lent.names clocks (bytes_of files source) words none.1.0 none.1.1))
