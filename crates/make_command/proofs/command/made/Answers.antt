use Rattle.std.proofs.Common.{subst, sym}
use Rattle.program_maker.specs.Texts.{source_text}
use Rattle.compile_laws.specs.Laws.{IsSmallChipOf}
use Rattle.compile_command.proofs.Compiling.{compiled}
use Rattle.make_command.proofs.command.made.Goals as goal

pub summary_of-requires-clause-chip : goal.summary_of-requires-clause-chip
summary_of-requires-clause-chip c =
    subst (IsSmallChipOf c.in_ok-ready.ready.checked.program) (sym c.deref.ensures.value) c.in_ok-chip.ensures.small

pub returns-clause-compiled : goal.returns-clause-compiled
returns-clause-compiled c =
    compiled (source_text c.args.seed) c.in_ok-chip.chip.items c.in_ok-ready.ready.checked.program c.in_ok-chip.ensures
    c.in_ok-ready.ensures.source

pub returns-clause-run : goal.returns-clause-run
returns-clause-run c =
    let ready = c.in_ok-ready.ready in
    let told = c.in_ok-ready.ensures in
    record {
      program = ready.checked.program;
      pads = ready.checked.pads;
      given = ready.stimulus;
      is_source = told.source;
      padded = told.known;
      is_stimulus = told.stimulus;
      run = rw c.deref.ensures.value at c.in_ok-text.ensures;
    }
