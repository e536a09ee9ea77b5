use Rattle.std.proofs.Common.{length, ap, arith}
use Rattle.slice_layout.proofs.SliceLayout.{stubs_long}
use Rattle.slice_layout.proofs.layout.lay_out.Goals as goal

pub push_stubs-requires : goal.push_stubs-requires
push_stubs-requires c =
    let l = stubs_long c.args.path.now _ c.in_ok-stubs.ensures in
    let f = c.len-nets.ensures.shape.few_nets in
    let e = ap length c.deref-2.ensures.value in
    omega arith
