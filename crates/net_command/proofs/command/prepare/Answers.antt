use Rattle.net_command.proofs.Sizes.{shows_size}
use Rattle.net_command.proofs.command.prepare.Goals as goal

pub returns-clause-shows : goal.returns-clause-shows
returns-clause-shows g c =
    shows_size c.args.cif.now _ c.in_ok-net.net
    (g.D.Depot.held c.read_network.new.depot) c.in_ok-size_line.ensures c.in_ok-net.ensures.drawn
