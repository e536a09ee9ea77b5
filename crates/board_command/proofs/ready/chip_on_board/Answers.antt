use Rattle.std.proofs.Common.{sym, subst}
use Rattle.compile_laws.specs.Laws.{IsSmallChipOf}
use Rattle.board_command.proofs.ready.chip_on_board.Goals as goal

pub circuit_of-requires-clause-chip : goal.circuit_of-requires-clause-chip
circuit_of-requires-clause-chip g c =
    subst (IsSmallChipOf c.args.checked.now.program) (sym c.deref.ensures.value) c.in_ok-chip.ensures.small
