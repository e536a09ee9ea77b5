use Rattle.rules_command.proofs.Verdicts.{shows_verdict}
use Rattle.rules_command.proofs.command.prepare.Goals as goal

pub returns-clause-shows : goal.returns-clause-shows
returns-clause-shows g c =
    shows_verdict c.args.cif.now _ c.in_ok-flat.flat.shapes c.in_ok-flat.flat.labels c.in_ok-verdict.verdict
    (g.D.Depot.held c.read_drawing.new.depot) c.in_ok-verdict.ensures c.in_ok-verdict_line.ensures
    c.in_ok-flat.ensures.drawn
