use Rattle.slice_symbols.specs.Standing.{AreAlike}
use Rattle.slice_symbols.proofs.standing.are_alike.Given as goal

-- those of the bands so far are as the first
abbrev pub invariant-loop-band : goal.invariant-loop-band
invariant-loop-band l = AreAlike l.standing l.at l.band l.first
