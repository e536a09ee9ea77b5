use Rattle.std.proofs.Common.{◌+◌, arith}
use Rattle.std.proofs.lemmas.Bool.{iff_false}
use Rattle.switch_net.specs.Values.{value_at}
use Rattle.node_clusters.specs.Board.{setting_of}
use Rattle.settle_events.proofs.Climbing.{climbs_step}
use Rattle.settle_events.proofs.Passing.{passes_skip, passes_more, passes_look}
use Rattle.settle_events.proofs.passes.pass.Goals as goal
use Rattle.settle_events.proofs.passes.pass.Goals.{then-is_open+then-not-looked-node+then-evaluate}
use Rattle.settle_events.proofs.passes.pass.Goals.{then-is_open+then-not-looked-node+else-evaluate, else-is_open}
use Rattle.settle_events.proofs.passes.pass.Goals.{else-is_open-via-then-is_open+else-not-looked-node}
use Rattle.settle_events.proofs.passes.pass.Goals.{else-is_open-via-else-is_open}

pub drain-requires-clause-climbs : goal.drain-requires-clause-climbs
drain-requires-clause-climbs c =
    climbs_step (setting_of c.args.board.now) c.nodes_are_given.ensures.grow (value_at c.loop-node.values)
    (value_at c.evaluate.new.values) c.loop-node.invariant.climbs c.evaluate.ensures.steps

pub loop-node-preserved : goal.loop-node-preserved
loop-node-preserved c =
    let b = c.args.board.now in
    let i = c.loop-node.node in
    let old = c.args.values.now in
    let mid = c.loop-node.values in
    let h = c.loop-node.invariant in
    let changed = c.loop-node.changed in
    let sets = c.loop-node.sets in
    let looked = c.loop-node.looked in
    elim c.if-is_open.branch [
      | then-is_open+then-not-looked-node+then-evaluate w ↦
          rw (w.values-is, w.sets-is, w.looked-is, w.changed-is)
          (passes_more b i old
          (i + 1) w.drain.new.sets w.drain.new.looked w.drain.new.values w.drain.ensures.sets w.drain.ensures.climbs
          (let first = w.evaluate.ensures.more w.if-evaluate.true in let then = w.drain.ensures.fewer in
          let before = h.fewer in omega arith))
      | then-is_open+then-not-looked-node+else-evaluate w ↦
          rw (w.values-is, w.sets-is, w.looked-is, w.changed-is)
          (passes_look b i old changed sets w.evaluate.new.sets looked w.evaluate.new.looked mid w.evaluate.new.values
          h w.evaluate.ensures.sets
          (w.evaluate.ensures.same w.if-evaluate.false) (w.evaluate.ensures.stuck w.if-evaluate.false)
          (w.evaluate.ensures.marked w.if-evaluate.false))
      | else-is_open w ↦
          rw (w.values-is, w.sets-is, w.looked-is, w.changed-is)
          (passes_skip b i old changed sets looked mid h
          (elim w.else-is_open.branch [
            | else-is_open-via-then-is_open+else-not-looked-node w' ↦
                λ still. h.marked still i w'.if-not-looked-node.false
            | else-is_open-via-else-is_open w' ↦
                λ _ free x. absurd (iff_false c.is_open.ensures w'.if-is_open.false (free, x))
          ]))
    ]

pub returns-clause-stuck : goal.returns-clause-stuck
returns-clause-stuck c still n lt = c.loop-node.invariant.stuck still n (omega arith)
