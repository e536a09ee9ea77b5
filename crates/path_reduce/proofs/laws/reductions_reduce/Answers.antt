use Rattle.path_reduce.proofs.Following.{reductions_reduce}
use Rattle.path_reduce.proofs.laws.reductions_reduce.Goals as goal

pub returns : goal.returns
returns c = reductions_reduce
