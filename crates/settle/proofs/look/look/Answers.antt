use Rattle.std.proofs.Common.{arith}
use Rattle.switch_net.specs.Values.{value_at}
use Rattle.node_clusters.specs.Board.{setting_of}
use Rattle.settle.proofs.Looking.{look_ready, apart_from}
use Rattle.settle.proofs.look.look.Goals as goal

pub renew-requires-clause-apart : goal.renew-requires-clause-apart
renew-requires-clause-apart c =
    apart_from (setting_of c.args.board.now)
    (value_at c.args.values.now) c.nodes_are_given.ensures.once c.fill.new.self.cluster.members
    c.fill.new.self.zeros.members c.fill.new.self.ones.members
    c.fill.ensures.cluster.zeros c.fill.ensures.cluster.ones

pub returns-clause-ready : goal.returns-clause-ready
returns-clause-ready c =
    let b = c.args.board.now in
    let sized = c.renew.auto.waits in
    look_ready
    (setting_of b) b.network.now.nodes b.network.now.ends_in b.gated.now c.requires.moment.gated c.args.values.now
    c.renew.new.values c.args.waits.now c.rest.new.waits c.renew.new.waits
    (omega arith) c.fill.new.self.cluster.members c.fill.new.self.zeros.members c.fill.new.self.ones.members
    c.fill.ensures.cluster.cluster c.fill.ensures.cluster.zeros c.fill.ensures.cluster.ones
    c.rest.ensures.fewer c.rest.ensures.rest c.renew.ensures c.requires.ready c.ordered_settings_settle.ensures.look
