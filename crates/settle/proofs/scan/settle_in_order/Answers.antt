use Rattle.switch_net.specs.Values.{value_at}
use Rattle.node_clusters.specs.Board.{setting_of}
use Rattle.settle.proofs.Waking.{mark_at}
use Rattle.settle.proofs.scan.settle_in_order.Goals as goal

pub returns-clause-settled : goal.returns-clause-settled
returns-clause-settled c none =
    let s = setting_of c.args.board.now in
    let v = value_at c.scan.new.values in
    let order = c.requires.order (c.if-not-has_order.false) in
    let ready = c.scan.ensures.ready in
    let law = c.ordered_settings_settle.ensures in
    law.settle s order.0 v order.1
    (law.solve s v (mark_at c.scan.new.waits) ready.told (c.is_none_waiting.ensures none) ready.driven)
