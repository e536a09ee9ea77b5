use Rattle.std.proofs.Common.{arith}
use Rattle.switch_net.specs.Values.{value_at}
use Rattle.node_clusters.specs.Board.{setting_of}
use Rattle.settle_events.proofs.Climbing.{climbs_step}
use Rattle.settle_events.proofs.passes.drain.Goals as goal
use Rattle.settle_events.proofs.passes.drain.Goals.{then-waits+then-node-board+then-is_open, else-waits}

pub loop-round-preserved : goal.loop-round-preserved
loop-round-preserved c =
    let s = setting_of c.args.board.now in
    let h = c.loop-round.invariant in
    elim c.if-waits.branch [
      | then-waits+then-node-board+then-is_open w ↦
          rw (w.sets-is, w.values-is) (
            w.evaluate.ensures.sets,
            climbs_step s c.nodes_are_given.ensures.grow (value_at c.loop-round.values)
                (value_at w.evaluate.new.values) h.1 w.evaluate.ensures.steps,
            let less = w.evaluate.ensures.fewer in let before = h.2 in omega arith,
          )
      | else-waits w ↦ rw (w.sets-is, w.values-is) h
    ]
