use Rattle.std.proofs.Common.{length, ◌+◌, ◌-◌}
use Rattle.strip_rows.proofs.pairs.pair_upon.Given as goal
use Rattle.strip_rows.proofs.Pairing.{IsUponUpto}

abbrev pub invariant-loop-i : goal.invariant-loop-i
invariant-loop-i l = IsUponUpto l.numbers l.first l.lost l.fresh l.i l.j l.second l.fn.pairs.items l.pairs.items

abbrev pub decreases-loop-i : goal.decreases-loop-i
decreases-loop-i l = length l.lost + length l.fresh - (l.i + l.j)
