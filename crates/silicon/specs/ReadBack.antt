-- What a compilation wrote, read again.
use Rattle.std.specs.Prelude.{◌≡◌, ℕ, List, Some, None}
use Rattle.std.specs.FinMap.{get}
use Rattle.outside.specs.Outside.{Files}
use Rattle.command_line.specs.Command.{Net}
use Rattle.compile_command.specs.Compiled.{IsCompiled}
use Rattle.board_command.specs.Parts.{Lent}
use Rattle.silicon.specs.Faults.{IsFirstFault}

-- of files that hold a compiled chip under a name, `net` of that name finds no fault
abbrev pub CompiledFilesAreRead : Type 0
CompiledFilesAreRead =
    (lent : Lent) (source chip cif : List ℕ) (files : Files) → IsCompiled source chip → get files cif ≡ Some chip
    → IsFirstFault lent (Net cif) files None
