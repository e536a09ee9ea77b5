use Rattle.mp_order.proofs.Existing.{order_exists}
use Rattle.mp_order.proofs.laws.order_exists.Goals as goal

pub returns : goal.returns
returns c = order_exists c.args.program.now c.sound.ensures c.sets.ensures c.reads.ensures c.requires
