use Rattle.datapath_finish.proofs.WholePath.{finished_now, whole_now}
use Rattle.datapath_finish.proofs.finishing.ends_of.Goals as goal

pub returns : goal.returns
returns c = record {
  whole = whole_now c.args.rtl.now c.args.making.now c.requires.sound c.requires.light c.requires.complete
      c.in_ok-inputs.inputs c.in_ok-outputs.outputs c.in_ok-inputs.ensures c.in_ok-outputs.ensures
      c.orders_are_whole.ensures c.ordered.new.making c.in_ok-order.order c.in_ok-order.ensures c.in_ok-pads.pads
      c.in_ok-pads.ensures;
  finished = finished_now c.args.rtl.now c.args.making.now c.requires.sound c.requires.light c.requires.complete
      c.in_ok-inputs.inputs c.in_ok-outputs.outputs c.in_ok-inputs.ensures c.in_ok-outputs.ensures
      c.ordered.new.making c.in_ok-order.order c.in_ok-order.ensures c.in_ok-pads.pads c.in_ok-pads.ensures;
}
