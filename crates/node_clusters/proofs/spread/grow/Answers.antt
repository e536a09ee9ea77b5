use Rattle.std.proofs.Common.{◌∙◌, refl, arith}
use Rattle.switch_net.specs.Values.{value_at}
use Rattle.node_clusters.specs.Board.{setting_of}
use Rattle.node_clusters.specs.Spread.{Uses}
use Rattle.node_clusters.proofs.Adding.{grows_none, grows_more, grows_all}
use Rattle.node_clusters.proofs.spread.grow.Goals as goal

pub loop-next-init : goal.loop-next-init
loop-next-init c = (
  refl,
  grows_none (setting_of c.args.board.now)
      (Uses c.args.route (value_at c.args.values.now)) c.args.set.now.members,
)

pub loop-next-preserved : goal.loop-next-preserved
loop-next-preserved c =
    let h = c.loop-next.invariant in (
      c.add_adjoining.ensures.room ∙ h.0,
      grows_more (setting_of c.args.board.now)
          (Uses c.args.route (value_at c.args.values.now)) c.loop-next.next c.at-node.result c.args.set.now.members
          c.loop-next.set.members c.add_adjoining.new.set.members
          (omega arith) c.at-node.ensures.node c.add_adjoining.ensures.adds h.1,
    )

pub returns-clause-spreads : goal.returns-clause-spreads
returns-clause-spreads c =
    grows_all (setting_of c.args.board.now)
    (Uses c.args.route (value_at c.args.values.now)) c.loop-next.next c.args.set.now.members c.loop-next.set.members
    (omega arith) c.loop-next.invariant.1
