use Rattle.slice_symbols.proofs.Heights.{AreHeights}
use Rattle.slice_symbols.proofs.symbols.heights.Given as goal

abbrev pub invariant-loop-band : goal.invariant-loop-band
invariant-loop-band l = AreHeights l.bands l.band l.heights
