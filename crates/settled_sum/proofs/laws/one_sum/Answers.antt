use Rattle.settled_sum.proofs.OneSum.{exist, once}
use Rattle.settled_sum.proofs.laws.one_sum.Goals as goal

pub returns-clause-exist : goal.returns-clause-exist
returns-clause-exist c = exist

pub returns-clause-once : goal.returns-clause-once
returns-clause-once c = once
