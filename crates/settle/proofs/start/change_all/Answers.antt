use Rattle.std.proofs.Common.{◌≡◌, ◌∙◌, arith, None}
use Rattle.std.proofs.lemmas.List.{get_or_default}
use Rattle.switch_net.specs.Values.{driver_at}
use Rattle.settle.proofs.Starting.{redrives_none, redrives_same, redrives_more}
use Rattle.settle.proofs.start.change_all.Goals as goal
use Rattle.settle.proofs.start.change_all.Goals.{then-not-is_same, else-not-is_same}

pub loop-node-init : goal.loop-node-init
loop-node-init c =
    let b = c.args.board.now in
    redrives_none b.network.now.channels b.gated.now c.args.last.now b.drive.now c.args.values.now c.args.waits.now
    c.requires.none

pub loop-node-preserved : goal.loop-node-preserved
loop-node-preserved c =
    let b = c.args.board.now in
    let channels = b.network.now.channels in
    let gated = b.gated.now in
    let last = c.args.last.now in
    let drive = b.drive.now in
    let old = c.args.values.now in
    let i = c.loop-node.node in
    let mid = c.loop-node.values in
    let waits = c.loop-node.waits in
    let h = c.loop-node.invariant in
    let drive_sized = c.requires.moment.drive_sized in
    let last_sized = c.requires.last in
    elim c.if-not-is_same.branch [
      | then-not-is_same w ↦
          rw (w.values-is, w.waits-is)
          (redrives_more channels gated last drive old i mid waits h w.change.new.values w.change.new.waits
          w.change.auto.waits w.change.ensures)
      | else-not-is_same w ↦
          let same : driver_at drive i ≡ driver_at last i =
          get_or_default drive i None _ (omega arith) ∙ c.is_same.ensures.0 w.if-not-is_same.false
          ∙ get_or_default last i _ None (omega arith) in
          rw (w.values-is, w.waits-is)
          (redrives_same channels gated last drive old i mid waits h c.requires.driven same)
    ]
