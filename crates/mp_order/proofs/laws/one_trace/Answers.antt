use Rattle.mp_order.proofs.laws.one_trace.Goals as goal

pub returns : goal.returns
returns c = let (order, ordered) = c.order_exists.ensures in c.exactly_one_trace.ensures order ordered
