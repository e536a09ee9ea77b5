use Rattle.switch_net.specs.Values.{value_at}
use Rattle.node_clusters.specs.Board.{setting_of}
use Rattle.node_clusters.proofs.Spreading.{holds_reached}
use Rattle.node_clusters.proofs.spread.spread.Goals as goal

pub returns-clause-reached : goal.returns-clause-reached
returns-clause-reached c =
    holds_reached (setting_of c.args.board.now)
    (value_at c.args.values.now) c.args.cluster.now.members c.requires.cluster c.args.route c.args.source
    c.seed.new.set.members c.grow.new.set.members c.seed.ensures.seeds c.grow.ensures.spreads
