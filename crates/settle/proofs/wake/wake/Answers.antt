use Rattle.std.proofs.Common.{◌≡◌, get_or, arith}
use Rattle.std.proofs.lemmas.List.{get_or_default}
use Rattle.std.proofs.lemmas.Bool.{iff_false}
use Rattle.switch_net.specs.Values.{driver_at}
use Rattle.settle.proofs.Waking.{wakes_none, wakes_more, wakes_skip, wakes_all}
use Rattle.settle.proofs.wake.wake.Goals as goal
use Rattle.settle.proofs.wake.wake.Goals.{then-is_undriven, else-is_undriven}

pub loop-node-init : goal.loop-node-init
loop-node-init c = wakes_none (driver_at c.args.drive.now) c.args.nodes.now c.args.waits.now

pub loop-node-preserved : goal.loop-node-preserved
loop-node-preserved c =
    let driver = driver_at c.args.drive.now in
    let nodes = c.args.nodes.now in
    let old = c.args.waits.now in
    let mid = c.loop-node.waits in
    let i = c.loop-node.node-index in
    let e = get_or nodes i 0 in
    let is : e ≡ get_or nodes i e = get_or_default nodes i 0 e (omega arith) in
    let h = c.loop-node.invariant in
    let sized = c.loop-node.auto.waits in
    let room = c.requires in
    elim c.if-is_undriven.branch [
      | then-is_undriven w ↦
          let free = c.is_undriven.ensures.0 w.if-is_undriven.true in
          let lt = free.0 in
          rw w.waits-is (wakes_more driver nodes i e old mid (omega arith) is h (omega arith) free.1)
      | else-is_undriven w ↦
          rw w.waits-is
          (wakes_skip driver nodes i e old mid (omega arith) is h
          (λ lt free. iff_false c.is_undriven.ensures w.if-is_undriven.false (omega arith, free)))
    ]

pub returns-clause-wakes : goal.returns-clause-wakes
returns-clause-wakes c =
    wakes_all (driver_at c.args.drive.now) c.args.nodes.now c.loop-node.node-index c.args.waits.now c.loop-node.waits
    (omega arith) c.loop-node.invariant
