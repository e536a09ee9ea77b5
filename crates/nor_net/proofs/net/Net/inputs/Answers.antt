use Rattle.std.proofs.Common.{length, ap, arith}
use Rattle.nor_net.proofs.Counting.{count_small}
use Rattle.nor_net.proofs.net.Net.inputs.Goals as goal

pub overflow_add-count : goal.overflow_add-count
overflow_add-count c =
    let few = count_small c.args.self.now c.loop-part.part-index in
    let nets = c.self.invariant.few_nets in
    let same = ap length c.self.view_is in
    let items = ap length c.as_slice-part-items.ensures in
    let count = c.loop-part.invariant in
    omega (arith, few, nets, same, items, count)
