use Rattle.mp_rules.proofs.Moving.{any_order}
use Rattle.mp_rules.proofs.laws.seat_in_any_order.Goals as goal

pub returns : goal.returns
returns c = any_order
