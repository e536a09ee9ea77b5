use Rattle.path_reducing.proofs.Smaller.{in_two_rounds}
use Rattle.path_reducing.proofs.reducing.reduced.Goals as goal

pub returns : goal.returns
returns c =
    in_two_rounds c.args.path c.in_ok-first.first c.in_ok-second.second c.in_ok-first.ensures c.in_ok-second.ensures
