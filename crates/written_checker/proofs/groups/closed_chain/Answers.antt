use Rattle.mp_fitting.proofs.Driving.{driven_named}
use Rattle.written_checker.proofs.groups.closed_chain.Goals as goal

pub evaluation_order-requires-clause-own : goal.evaluation_order-requires-clause-own
evaluation_order-requires-clause-own c = λ d x (at, driven). c.own_names.ensures d x at (driven_named x.what driven)
