use Rattle.path_order.proofs.Whole.{orders_are_whole}
use Rattle.path_order.proofs.laws.orders_are_whole.Goals as goal

pub returns : goal.returns
returns c = orders_are_whole
