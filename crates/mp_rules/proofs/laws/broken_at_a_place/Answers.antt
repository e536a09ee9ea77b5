use Rattle.mp_rules.proofs.Places.{broken_place}
use Rattle.mp_rules.proofs.laws.broken_at_a_place.Goals as goal

pub returns : goal.returns
returns c = broken_place
