use Rattle.process_layout.proofs.Ordered.{order_cells}
use Rattle.process_layout.proofs.laying.layout_of.Goals as goal

pub order_of-requires : goal.order_of-requires
order_of-requires c =
    order_cells c.args.program.now c.in_ok-laid.laid.roles c.in_ok-laid.laid.cells c.args.order.now c.in_ok-laid.ensures
    c.requires
