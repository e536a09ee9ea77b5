use Rattle.mp_order.proofs.Existing.{chain_decided}
use Rattle.mp_order.proofs.laws.chains.Goals as goal

pub returns : goal.returns
returns c = chain_decided
