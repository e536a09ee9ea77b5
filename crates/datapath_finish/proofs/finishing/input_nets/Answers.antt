use Rattle.std.proofs.Common.{◌+◌, ◌∙◌, List, subst, sym}
use Rattle.mp_base.specs.declared.pad.Pad.{Pad}
use Rattle.nor_net.specs.declared.net.NetId.{NetId}
use Rattle.mp_base.specs.Entries.{IsAt}
use Rattle.mp_base.proofs.Entries.{entry}
use Rattle.datapath_finish.specs.Finishing.{AreInputNets, IsPadNet}
use Rattle.datapath_finish.proofs.PadNets.{inputs_more}
use Rattle.datapath_finish.proofs.finishing.input_nets.Goals as goal

pub loop-pad-preserved : goal.loop-pad-preserved
loop-pad-preserved c =
    let i = c.loop-pad.pad-index in
    subst (λ (ids : List NetId). AreInputNets c.args.rtl.now c.args.making.now (i + 1) ids)
    (sym c.in_ok-push.ensures.ok)
    (inputs_more c.args.rtl.now c.args.making.now i c.loop-pad.inputs c.pad_net-net.result c.pad-item.result
    c.loop-pad.invariant
    (subst (λ (xs : List Pad). IsAt xs i c.pad-item.result) c.as_slice-pad-items.ensures
    (entry c.as_slice-pad-items.result.now i c.loop-pad-test.true c.pad-item.is))
    (subst (λ k. IsPadNet c.args.making.now k c.pad-item.result c.pad_net-net.result)
    (c.len.ensures ∙ c.loop-pad.invariant.count) c.pad_net-net.ensures))
