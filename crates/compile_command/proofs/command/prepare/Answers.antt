use Rattle.compile_command.proofs.Compiling.{shows_chip}
use Rattle.compile_command.proofs.command.prepare.Goals as goal

pub returns-clause-shows : goal.returns-clause-shows
returns-clause-shows g c =
    shows_chip c.args.source.now c.args.cif.now c.in_ok-chip_text.field-0.items c.in_ok-checked.checked.program
    (g.D.Depot.held c.read_source.new.depot) c.in_ok-chip_text.ensures c.in_ok-checked.ensures.source
