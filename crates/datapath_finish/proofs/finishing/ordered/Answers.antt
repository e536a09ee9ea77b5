use Rattle.std.proofs.Common.{◌∙◌, List, ap}
use Rattle.path_order.specs.declared.order.Mark.{Mark}
use Rattle.path_order.specs.Order.{order_from, start}
use Rattle.datapath_making.specs.Steps.{marked}
use Rattle.datapath_finish.proofs.finishing.ordered.Goals as goal

pub returns : goal.returns
returns c = record {
  marked = c.in_ok-mark.ensures.marked ∙ ap (λ n. marked n c.args.making.now) c.len-control_nets.ensures.len;
  made = c.in_ok-mark.ensures.made;
  control = c.len-control_nets.ensures.shape;
  slices = c.len-slice_nets.ensures.shape;
  order = c.in_ok-order.ensures ∙ ap (λ (marks : List Mark). order_from c.mark.new.self.width start marks)
      c.as_slice.ensures;
}
