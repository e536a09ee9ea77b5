use Rattle.slice_symbols.proofs.Stood.{AreStoodTo}
use Rattle.slice_symbols.proofs.standing.stand.Given as goal

abbrev pub invariant-loop-rect : goal.invariant-loop-rect
invariant-loop-rect l = AreStoodTo l.rects l.bands l.rect-index l.standing l.rest
