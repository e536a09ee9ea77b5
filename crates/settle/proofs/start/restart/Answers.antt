use Rattle.std.proofs.Common.{arith}
use Rattle.std.proofs.lemmas.List.{get_or_past}
use Rattle.mp_base.specs.declared.value.Trit.TheVariants.{X}
use Rattle.node_clusters.specs.Board.{setting_of}
use Rattle.settle.proofs.Starting.{all_wait}
use Rattle.settle.proofs.start.restart.Goals as goal

pub returns : goal.returns
returns c =
    let b = c.args.board.now in
    let net = b.network.now in
    let m = c.requires.moment in
    let drive_sized = m.drive_sized in
    let before_sized = m.before_sized in
    let values_sized = m.values_sized in
    let sized = c.wake_all.auto.values in
    record {
      driven = c.wake_all.ensures.driven;
      undriven = c.wake_all.ensures.undriven;
      told = all_wait c.nodes_are_given.ensures.reach
          (setting_of b) net.nodes c.wake_all.new.values c.wake_all.new.waits net.ends_in (omega arith)
          (λ n far. get_or_past b.before.now n X (omega arith)) (λ n lt. c.wake_all.ensures.waiting n (omega arith));
    }
