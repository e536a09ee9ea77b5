use Rattle.stats_command.proofs.Sized.{shows_size}
use Rattle.stats_command.proofs.command.prepare.Goals as goal

pub returns-clause-shows : goal.returns-clause-shows
returns-clause-shows g c =
    shows_size c.args.source.now _ c.in_ok-checked.checked.program (g.D.Depot.held c.read_source.new.depot)
    c.in_ok-stats_text.ensures c.in_ok-checked.ensures.source
